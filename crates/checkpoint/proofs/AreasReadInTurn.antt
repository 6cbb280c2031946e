-- The areas in use, read one after the other.
use Rattle.std.proofs.Common.{◌≡◌, inl, inr, ℕ, zero, suc, ◌+◌, ◌<◌, List, [], ◌∷◌, ◌++◌, slice_index, refl, sym, ◌∙◌, ap, subst, arith}
use Rattle.disk_model.specs.Disk.{State, IsAllSynced}
use Rattle.image_model.specs.Geometry.{device_bytes_of}
use Rattle.image_model.specs.declared.geometry.Geometry.{Geometry}
use Rattle.header_slots.specs.declared.header.Header.{Header}
use Rattle.journal_format.specs.Area.{AreaState}
use Rattle.journal_format.specs.GroupList.{HoldsList, IsDamaged, IsHeld, IsNextGroup, IsOpen, Lead, StandsAt, next_behind, size_of, sizes_of}
use Rattle.journal_format.specs.Spelling.{StoredGroup, group_bytes}
use Rattle.journal_format.specs.Scanning.{IsScanFault}
use Rattle.journal_format.specs.declared.fault.JournalFault.{JournalFault}
use Rattle.journal_format.specs.declared.fault.JournalFault.TheVariants as journals
use Rattle.checkpoint.specs.Faults.{of_journal}
use Rattle.device_image.specs.Keeper.{PlanState, earlier_of, last_number, last_turned, turned_of}
use Rattle.device_image.specs.Keeps.{AreHeld, HoldsAreas, IsListed, IsPlaced, behind_lists}
use Rattle.device_image.specs.inner.Keeps.{HoldsListed}
use Rattle.device_image.specs.Damage.{IsAreaDamaged, IsOneDamaged}
use Rattle.checkpoint.specs.inner.Opening.{IsGroupsRefused}
use Rattle.device_image.specs.Stands.{HoldLists, area_of, last_area, next_number}
use Rattle.device_image.specs.laws.CheckpointBounds.{behind-push, earlier-push, held_more}
use Rattle.device_image.specs.laws.Frame.{held_lists}
use Rattle.device_image.specs.laws.Free.{AreInside, ring_inside}
use Rattle.device_image.specs.laws.HeaderReplaced.{areas_above}
use Rattle.device_image.specs.laws.Steps.{held_stay}
use Rattle.regions.specs.Layout.{areas_in, behind, next_of, ring}
use Rattle.regions.specs.laws.Ring.{area_high, ring-last}
use Rattle.checkpoint.specs.Keeper.{AreSized, IsSized}

-- an area is damaged after others that are not
one_damaged : (count n total first : ℕ) (geometry : Geometry) (next : ℕ) (lists : List (List StoredGroup)) (content : List ℕ) → n < total → HoldLists (ring count n first) content geometry next lists
    → IsDamaged (area_of geometry (behind count n first)) (behind_lists next lists) content → IsOneDamaged (ring count total first) content geometry next
one_damaged count n zero first geometry next lists content below holds damaged = absurd (omega (arith, below))
one_damaged count zero (suc total) first geometry next [] content below holds damaged = inl damaged
one_damaged count zero (suc total) first geometry next (groups ∷ lists) content below holds damaged = absurd holds
one_damaged count (suc n) (suc total) first geometry next [] content below holds damaged = absurd holds
one_damaged count (suc n) (suc total) first geometry next (groups ∷ lists) content below holds damaged =
    inr (groups, holds.0, one_damaged count n total (next_of count first) geometry (next_behind next groups) lists content (omega (arith, below)) holds.1 damaged)

-- these checkpoints are of the first areas in use, whose lists are held, and the next number is that after them
pub record AreHeldSoFar (state : State) (header : Header) (n : ℕ) (plans : List PlanState) (next : ℕ) : Type 0 where
  pub lists : List (List StoredGroup)
  pub held : AreHeld (ring (areas_in header.geometry) n header.first_area) header.geometry (next_number header.base) lists (earlier_of plans) state
  pub next_is : next ≡ behind_lists (next_number header.base) lists

-- what is held still is where more is read
held_read : (areas : List ℕ) (geometry : Geometry) (next : ℕ) (lists : List (List StoredGroup)) (earlier : List AreaState) (before after : State) → AreInside geometry areas → before.seen ≡ after.seen → IsAllSynced after
    → AreHeld areas geometry next lists earlier before → AreHeld areas geometry next lists earlier after
held_read areas geometry next lists earlier before after inside same synced held =
    held_stay areas geometry next lists earlier before after inside
    (areas_above areas geometry before.seen after.seen (λ place above. ap (λ (content : List ℕ). slice_index content place) (sym same))) (λ place below. synced place) held

pub none_held : (state : State) (header : Header) (next : ℕ) → next ≡ next_number header.base → AreHeldSoFar state header 0 [] next
none_held state header next is = record { lists = []; held = tt; next_is = is }

module _ (header : Header) (n : ℕ) (plans : List PlanState) (before after : State) (next : ℕ) (so_far : AreHeldSoFar before header n plans next) (same : before.seen ≡ after.seen) (synced : IsAllSynced after) where
  abbrev pub index : ℕ
  index = behind (areas_in header.geometry) n header.first_area

  still_held : AreHeld (ring (areas_in header.geometry) n header.first_area) header.geometry (next_number header.base) so_far.lists (earlier_of plans) after
  still_held = held_read (ring (areas_in header.geometry) n header.first_area) header.geometry (next_number header.base) so_far.lists (earlier_of plans) before after
      (ring_inside header.geometry n header.first_area header.first_inside) same synced so_far.held

  -- one more area was read
  pub more_held : (plan : PlanState) (now : ℕ) → IsPlaced plan.first header.geometry index → HoldsListed plan.first next after → now ≡ plan.first.next → AreHeldSoFar after header (suc n) (plans ++ plan ∷ []) now
  more_held plan now placed holds now_is =
      let here : IsListed plan.first (behind_lists (next_number header.base) so_far.lists) holds.groups after = subst (λ (first : ℕ). IsListed plan.first first holds.groups after) so_far.next_is holds.listed in
      record {
        lists = so_far.lists ++ holds.groups ∷ [];
        held = subst (λ (areas : List ℕ). AreHeld areas header.geometry (next_number header.base) (so_far.lists ++ holds.groups ∷ []) (earlier_of (plans ++ plan ∷ [])) after) (sym (ring-last (areas_in header.geometry) n header.first_area))
            (subst (λ (earlier : List AreaState). AreHeld (ring (areas_in header.geometry) n header.first_area ++ index ∷ []) header.geometry (next_number header.base) (so_far.lists ++ holds.groups ∷ []) earlier after) (sym (earlier-push plans plan))
            (held_more (ring (areas_in header.geometry) n header.first_area) index header.geometry (next_number header.base) so_far.lists holds.groups (earlier_of plans) plan.first after still_held placed here));
        next_is = now_is ∙ here.next ∙ sym (behind-push (next_number header.base) so_far.lists holds.groups);
      }

  -- and it is damaged
  pub area_damaged : n < suc header.before_last → (content : List ℕ) → after.seen ≡ content → IsDamaged (area_of header.geometry index) next content → IsAreaDamaged content header
  area_damaged below content seen damaged =
      one_damaged (areas_in header.geometry) n (suc header.before_last) header.first_area header.geometry (next_number header.base) so_far.lists content below
      (subst (λ (bytes : List ℕ). HoldLists (ring (areas_in header.geometry) n header.first_area) bytes header.geometry (next_number header.base) so_far.lists) seen
      (held_lists _ header.geometry (next_number header.base) so_far.lists (earlier_of plans) after still_held))
      (subst (λ (first : ℕ). IsDamaged (area_of header.geometry index) first content) so_far.next_is damaged)

-- all of those before the last are read, and the last
pub all_held : (header : Header) (plans : List PlanState) (before after : State) (next : ℕ) → AreHeldSoFar before header header.before_last plans next → before.seen ≡ after.seen → IsAllSynced after
    → (area : AreaState) → IsPlaced area header.geometry (last_area header) → HoldsList area next after → (lists : List (List StoredGroup)) × HoldsAreas after header lists (earlier_of plans) area
all_held header plans before after next so_far same synced area placed holds = (
  so_far.lists ++ holds.groups ∷ [],
  record {
    front = so_far.lists;
    groups = holds.groups;
    are = refl;
    earlier_held = still_held header header.before_last plans before after next so_far same synced;
    placed = placed;
    held = subst (λ (first : ℕ). IsHeld area first holds.groups after) so_far.next_is holds.held;
  },
)

-- the number after those that stand in front
pub last-push : (base : ℕ) (plans : List PlanState) (plan : PlanState) → last_turned base (turned_of (plans ++ plan ∷ [])) ≡ last_number plan.first
last-push base [] plan = refl
last-push base (first ∷ plans) plan = last-push (last_number first.first) plans plan

pub next_after : (area : AreaState) (now : ℕ) → now < 18446744073709551616 → now ≡ area.next → now ≡ next_number (last_number area)
next_after area now fits is = omega (arith, fits, is)

pub sized_more : (plans : List PlanState) (plan : PlanState) (geometry : Geometry) (extent : ℕ) → AreSized plans geometry extent → IsSized plan.first geometry extent → AreSized (plans ++ plan ∷ []) geometry extent
sized_more [] plan geometry extent are is = (is, tt)
sized_more (first ∷ plans) plan geometry extent are is = (are.0, sized_more plans plan geometry extent are.1 is)

pub placed_sized : (area : AreaState) (geometry : Geometry) (index extent : ℕ) → IsPlaced area geometry index → index < areas_in geometry → extent ≡ device_bytes_of geometry.blocks geometry.area → IsSized area geometry extent
placed_sized area geometry index extent placed inside size = record {
  bytes = placed.bytes;
  blocks = placed.blocks;
  inside = omega (arith, placed.from, placed.bytes, size, area_high geometry index inside);
}

-- damage depends on the area's place alone
pub moved_damage : (area other : AreaState) (first : ℕ) (content : List ℕ) → area.from ≡ other.from → area.bytes ≡ other.bytes → area.blocks ≡ other.blocks → IsDamaged area first content → IsDamaged other first content
moved_damage area other first content from bytes blocks damaged = record {
  groups = damaged.groups;
  lead = subst (λ (image : ℕ). Lead image content other.from first damaged.groups) blocks
      (subst (λ (place : ℕ). Lead area.blocks content place first damaged.groups) from damaged.lead);
  inside = subst (λ (n : ℕ). sizes_of damaged.groups < n) bytes damaged.inside;
  is_open = subst (λ (place : ℕ). IsOpen content (place + sizes_of damaged.groups)) from damaged.is_open;
  none = λ group next stands fits. damaged.none group
      (subst (λ (image : ℕ). IsNextGroup image (next_behind first damaged.groups) group) (sym blocks) next)
      (subst (λ (place : ℕ). StandsAt content (place + sizes_of damaged.groups + 1) (group_bytes group)) (sym from) stands)
      (subst (λ (n : ℕ). sizes_of damaged.groups + size_of group < n) (sym bytes) fits);
}

-- what a scan's refusal says
pub scan_refused : (fault : JournalFault) (P : Type 0) → IsScanFault fault → (fault ≡ journals.DamagedGroup → P) → IsGroupsRefused (of_journal fault) P
scan_refused journals.NoMemory P cause damaged = tt
scan_refused journals.DeviceFault P cause damaged = tt
scan_refused journals.AreaFull P cause damaged = cause
scan_refused journals.OutOfOrder P cause damaged = cause
scan_refused journals.DamagedGroup P cause damaged = damaged refl
