-- A keeper while the header changes, in what it remembers.
use Rattle.std.proofs.Common.{slice_index, ◌≡◌, ℕ, suc, ◌+◌, ◌-◌, ◌*◌, ◌%◌, ◌≤◌, ◌<◌, Option, Some, None, List, [], ◌∷◌, ◌++◌, length, refl, sym, ◌∙◌, ap, subst, arith, length-append}
use Rattle.std.specs.FinMap.{len}
use Rattle.std.specs.Prelude.{IfNone, IfSome}
use Rattle.disk_model.specs.Disk.{State, IsSound, IsSyncedIn}
use Rattle.header_slots.specs.Change.{ComesNext, IsInPlace, IsRenewed, LeavesEither}
use Rattle.header_slots.specs.Slots.{HoldsHeader}
use Rattle.header_slots.specs.declared.header.Header.{Header}
use Rattle.header_slots.specs.laws.Sole.{same_fields}
use Rattle.image_model.specs.Change.{Change}
use Rattle.image_model.specs.Dirty.{dirty_blocks}
use Rattle.image_model.specs.Geometry.{device_bytes_of}
use Rattle.image_model.specs.Image.{Image, apply_all}
use Rattle.image_model.specs.Side.{other_of}
use Rattle.image_model.specs.declared.command.Kind.{Kind}
use Rattle.image_model.specs.declared.geometry.Geometry.{Geometry}
use Rattle.image_model.specs.declared.side.Side.{Side}
use Rattle.journal_format.specs.Area.{AreaState}
use Rattle.regions.specs.Layout.{area_at, area_size, areas_in, behind, block_at, next_of}
use Rattle.regions.specs.laws.Ring.{area_high, area_low, behind_below}
use Rattle.device_image.specs.inner.CheckpointHeader.{with_next, without_first}
use Rattle.device_image.specs.inner.Copied.{IsAreaStarted, LeavesAreaStart}
use Rattle.device_image.specs.Holds.{Holds}
use Rattle.device_image.specs.Keeper.{AreUncopied, IsPlanOf, IsUncopied, KeeperState, PlanState, count_puts, last_number, last_turned, lefts_of, phase_in, phase_of, turned_of}
use Rattle.device_image.specs.Keeps.{Keeps}
use Rattle.device_image.specs.Remembers.{Remembers}
use Rattle.device_image.specs.Stands.{StandsFor, next_number}
use Rattle.device_image.specs.laws.AfterCall.{holds_begun, holds_ended}
use Rattle.device_image.specs.laws.CheckpointBounds.{base_is, begin_left, end_left, ended_header, keeps_begun, keeps_ended, many, parts, plan_left, uncopied_more}
use Rattle.device_image.specs.laws.Counted.{left_dirty}
use Rattle.device_image.specs.laws.Headers.{begun}
use Rattle.device_image.specs.laws.Lists.{KeepsLists}
use Rattle.checkpoint.specs.Keeper.{AreSized, IsSized, plans_of}
use Rattle.checkpoint.specs.Steps.{IsFinishTime, behind_first, first_turned, phase_left, phase_with}
use Rattle.checkpoint.specs.inner.Steps.{map_after, map_in, plans_behind}

-- the checkpoints once another one is after them
pub added : (old new : Option PlanState) (waiting more : List PlanState) (last : PlanState) → IfNone old ((new ≡ Some last) × (more ≡ []))
    → IfSome old (λ first. (new ≡ Some first) × (more ≡ waiting ++ last ∷ [])) → plans_of new more ≡ plans_of old waiting ++ last ∷ []
added None new waiting more last none some = λ i. plans_of (none.0 i) (none.1 i)
added (Some first) new waiting more last none some = λ i. plans_of (some.0 i) (some.1 i)

pub turned-push : (plans : List PlanState) (plan : PlanState) → turned_of (plans ++ plan ∷ []) ≡ turned_of plans ++ last_number plan.first ∷ []
turned-push [] plan = refl
turned-push (first ∷ plans) plan = ap (λ (rest : List ℕ). last_number first.first ∷ rest) (turned-push plans plan)

pub lefts-push : (plans : List PlanState) (plan : PlanState) → lefts_of (plans ++ plan ∷ []) ≡ lefts_of plans ++ plan.left ∷ []
lefts-push [] plan = refl
lefts-push (first ∷ plans) plan = ap (λ (rest : List ℕ). first.left ∷ rest) (lefts-push plans plan)

phase_in-with : (left more : ℕ) (mapped : Option (List Kind)) → phase_in left mapped ≡ phase_with (phase_in left mapped) more
phase_in-with left more None = refl
phase_in-with left more (Some map) = refl

pub phase-push : (plans : List PlanState) (plan : PlanState) → plan.mapped ≡ None → phase_of (plans ++ plan ∷ []) ≡ phase_with (phase_of plans) plan.left
phase-push [] plan none = ap (phase_in plan.left) none
phase-push (first ∷ plans) plan none = phase_in-with first.left plan.left first.mapped

-- as many numbers as checkpoints
pub turned-length : (plans : List PlanState) → length (turned_of plans) ≡ length plans
turned-length [] = refl
turned-length (plan ∷ plans) = ap suc (turned-length plans)

-- what is told of the checkpoints after the first
pub turned-behind : (plans : List PlanState) → turned_of (plans_behind plans) ≡ behind_first (turned_of plans)
turned-behind [] = refl
turned-behind (plan ∷ plans) = refl

pub lefts-behind : (plans : List PlanState) → lefts_of (plans_behind plans) ≡ behind_first (lefts_of plans)
lefts-behind [] = refl
lefts-behind (plan ∷ plans) = refl

uncopied-left : (plans : List PlanState) → AreUncopied plans → phase_of plans ≡ phase_left (lefts_of plans)
uncopied-left [] are = refl
uncopied-left (plan ∷ plans) are = ap (phase_in plan.left) (ap (λ (p : PlanState). p.mapped) are.0)

pub phase-behind : (plan : Option PlanState) (waiting : List PlanState) → AreUncopied waiting → phase_of (plans_behind (plans_of plan waiting)) ≡ phase_left (behind_first (lefts_of (plans_of plan waiting)))
phase-behind None waiting are = refl
phase-behind (Some plan) waiting are = uncopied-left waiting are

-- nothing is copied of the areas after the first
pub uncopied_after : (old new : Option PlanState) (waiting more : List PlanState) (last : PlanState) → IfNone old ((new ≡ Some last) × (more ≡ []))
    → IfSome old (λ first. (new ≡ Some first) × (more ≡ waiting ++ last ∷ [])) → AreUncopied waiting → IsUncopied last → AreUncopied more
uncopied_after None new waiting more last none some are is = subst AreUncopied (sym none.1) tt
uncopied_after (Some first) new waiting more last none some are is = subst AreUncopied (sym some.1) (uncopied_more waiting last are is)

pub uncopied_behind : (new : Option PlanState) (waiting more : List PlanState) → plans_of new more ≡ waiting → (new ≡ None → more ≡ []) → AreUncopied waiting → AreUncopied more
uncopied_behind None waiting more are none was = subst AreUncopied (sym (none refl)) tt
uncopied_behind (Some first) waiting more are none was = let all : AreUncopied (first ∷ more) = subst AreUncopied (sym are) was in all.1

-- the number of the last command in the area that groups go to
pub last_counted : (area : AreaState) (count : ℕ) → area.next ≡ next_number count → count < 18446744073709551616 → last_number area ≡ count
last_counted area count next fits = omega (arith, next, fits)

module _ {D : Type 0} (keeper : KeeperState D) (state : State) (image : Image) (number : ℕ) (keeps : Keeps keeper state image number) {extent : ℕ} (sound : IsSound extent state) where
  pub current_held : HoldsHeader state.seen extent keeper.memory.header keeper.memory.slot
  current_held =
      subst (λ (slot : Side). HoldsHeader state.seen extent keeper.memory.header slot) (sym keeps.slotted)
      (subst (λ (header : Header). HoldsHeader state.seen extent header keeps.stands.slot) (sym keeps.headed)
      (subst (λ (size : ℕ). HoldsHeader state.seen size keeps.stands.header keeps.stands.slot) sound.size keeps.stands.in_force))

  pub slots_synced : IsSyncedIn state 0 8192
  slots_synced place within unsynced = let copy = keeps.unsynced place unsynced in omega (arith, within.1, copy.inside.0)

  positive : 0 < area_size keeps.stands.header.geometry
  positive = omega (arith, keeps.areas.held.list.inside, keeps.areas.placed.bytes)

  module _ (header : Header) (header_is : IsRenewed keeper.memory.header (with_next keeper.memory.header) header) (room : keeper.memory.header.before_last + 1 < areas_in keeper.memory.header.geometry)
      (from : ℕ) (from_is : from ≡ area_at keeper.geometry (behind (areas_in keeper.geometry) (suc keeper.memory.header.before_last) keeper.memory.header.first_area)) where
    room_here : suc keeps.stands.header.before_last < areas_in keeps.stands.header.geometry
    room_here = subst (λ (h : Header). suc h.before_last < areas_in h.geometry) keeps.headed (omega (arith, room))

    header_begun : header ≡ begun keeps.stands.header room_here
    header_begun =
        same_fields header (begun keeps.stands.header room_here)
        (header_is.generation ∙ ap (λ (h : Header). h.generation + 1) keeps.headed)
        (header_is.geometry ∙ ap (λ (h : Header). h.geometry) keeps.headed)
        (omega (arith, header_is.before_last, ap (λ (h : Header). h.before_last) keeps.headed))
        (header_is.first_area ∙ ap (λ (h : Header). h.first_area) keeps.headed)
        (header_is.map_slot ∙ ap (λ (h : Header). h.map_slot) keeps.headed)
        (header_is.base ∙ ap (λ (h : Header). h.base) keeps.headed)

    from_at : from ≡ area_at keeps.stands.header.geometry (behind (areas_in keeps.stands.header.geometry) (suc keeps.stands.header.before_last) keeps.stands.header.first_area)
    from_at = from_is
        ∙ ap (λ (geometry : Geometry). area_at geometry (behind (areas_in geometry) (suc keeper.memory.header.before_last) keeper.memory.header.first_area)) keeps.sizes
        ∙ ap (λ (h : Header). area_at keeps.stands.header.geometry (behind (areas_in keeps.stands.header.geometry) (suc h.before_last) h.first_area)) keeps.headed

    pub from_above : 8192 ≤ from
    from_above = omega (arith, from_at, area_low keeps.stands.header.geometry (behind (areas_in keeps.stands.header.geometry) (suc keeps.stands.header.before_last) keeps.stands.header.first_area))

    from_high : from + area_size keeps.stands.header.geometry ≤ 8192 + 2 * keeps.stands.header.geometry.area
    from_high =
        let geometry = keeps.stands.header.geometry in
        let area = behind (areas_in geometry) (suc keeps.stands.header.before_last) keeps.stands.header.first_area in
        omega (arith, from_at, area_high geometry area (behind_below (areas_in geometry) (suc keeps.stands.header.before_last) keeps.stands.header.first_area keeps.stands.header.first_inside))

    pub comes_next : ComesNext keeper.memory.header header
    comes_next = record {
      generation = header_is.generation;
      blocks = ap (λ (size : Geometry). size.blocks) header_is.geometry;
      area = ap (λ (size : Geometry). size.area) header_is.geometry;
    }

    pub rotate_left : (content : List ℕ) → LeavesAreaStart state extent from keeper.memory.header keeper.memory.slot header content → StandsFor content image number
    rotate_left content left =
        begin_left keeper state image number keeps room_here extent sound positive content
        (subst (λ (place : ℕ). LeavesAreaStart state extent place keeps.stands.header keeps.stands.slot (begun keeps.stands.header room_here) content) from_at
        (subst (λ (h : Header). LeavesAreaStart state extent from keeps.stands.header keeps.stands.slot h content) header_begun
        (subst (λ (slot : Side). LeavesAreaStart state extent from keeps.stands.header slot header content) keeps.slotted
        (subst (λ (h : Header). LeavesAreaStart state extent from h keeper.memory.slot header content) keeps.headed left))))

    pub base_same : header.base ≡ keeper.base
    base_same = ap (λ (h : Header). h.base) header_begun ∙ sym keeps.from_base

    pub geometry_same : header.geometry ≡ keeper.geometry
    geometry_same = ap (λ (h : Header). h.geometry) header_begun ∙ sym keeps.sizes

    -- the data stay
    pub data_stay : (after : State) → IsAreaStarted state extent from header (other_of keeper.memory.slot) after → (place : ℕ) → block_at keeps.stands.header.geometry 0 ≤ place → slice_index after.seen place ≡ slice_index state.seen place
    data_stay after turn place above =
        turn.others place (omega (arith, above)) (λ is. omega (arith, is, above, from_high, positive))

    pub rotate_kept : (after : State) → IsSound extent after → (now : KeeperState D) (slot : Side) (next : AreaState) (plan : PlanState) → slot ≡ other_of keeper.memory.slot → IsAreaStarted state extent from header (other_of keeper.memory.slot) after
        → next ≡ record { from = from; bytes = area_size keeper.geometry; blocks = keeper.geometry.blocks; next = keeper.memory.area.next; gate = 0; touched = [] }
        → IsPlanOf keeper.memory.area plan
        → now ≡ record keeper {
          disk = now.disk;
          generation = header.generation;
          base = header.base;
          used = next.gate;
          turned = now.turned;
          lefts = now.lefts;
          phase = phase_of (keeper.memory.plans ++ plan ∷ []);
          geometry = header.geometry;
          memory = record keeper.memory { header = header; slot = slot; plans = keeper.memory.plans ++ plan ∷ []; area = next };
        } → KeepsLists now after image number (keeps.areas.front ++ keeps.areas.groups ∷ []) []
    rotate_kept after after_sound now slot next plan slot_is turn next_is plan_is now_is =
        keeps_begun keeper state image number keeps room_here extent sound positive after after_sound
        (subst (λ (place : ℕ). IsAreaStarted state extent place (begun keeps.stands.header room_here) (other_of keeps.stands.slot) after) from_at
        (subst (λ (h : Header). IsAreaStarted state extent from h (other_of keeps.stands.slot) after) header_begun
        (subst (λ (s : Side). IsAreaStarted state extent from header (other_of s) after) keeps.slotted turn)))
        plan plan_is now next
        (next_is ∙ ap (λ (place : ℕ). let area : AreaState = record { from = place; bytes = area_size keeper.geometry; blocks = keeper.geometry.blocks; next = keeper.memory.area.next; gate = 0; touched = [] } in area) from_at
        ∙ ap (λ (geometry : Geometry). let area : AreaState = record {
          from = area_at keeps.stands.header.geometry (behind (areas_in keeps.stands.header.geometry) (suc keeps.stands.header.before_last) keeps.stands.header.first_area);
          bytes = area_size geometry;
          blocks = geometry.blocks;
          next = keeper.memory.area.next;
          gate = 0;
          touched = [];
        } in area) keeps.sizes)
        (now_is ∙ view_is)
      where
        generation_more : header.generation ≡ keeper.generation + 1
        generation_more = ap (λ (h : Header). h.generation) header_begun ∙ sym (ap (λ (n : ℕ). n + 1) keeps.generation)

        used_none : next.gate ≡ 0
        used_none = ap (λ (a : AreaState). a.gate) next_is

        slot_other : slot ≡ other_of keeps.stands.slot
        slot_other = slot_is ∙ ap other_of keeps.slotted

        view_is : record keeper {
          disk = now.disk;
          generation = header.generation;
          base = header.base;
          used = next.gate;
          turned = now.turned;
          lefts = now.lefts;
          phase = phase_of (keeper.memory.plans ++ plan ∷ []);
          geometry = header.geometry;
          memory = record keeper.memory { header = header; slot = slot; plans = keeper.memory.plans ++ plan ∷ []; area = next };
        }
            ≡ record keeper {
              disk = now.disk;
              generation = keeper.generation + 1;
              used = 0;
              turned = now.turned;
              lefts = now.lefts;
              phase = phase_of (keeper.memory.plans ++ plan ∷ []);
              memory = record keeper.memory { header = begun keeps.stands.header room_here; slot = other_of keeps.stands.slot; plans = keeper.memory.plans ++ plan ∷ []; area = next };
            }
        view_is = λ i. record keeper {
          disk = now.disk;
          generation = generation_more i;
          base = base_same i;
          used = used_none i;
          turned = now.turned;
          lefts = now.lefts;
          phase = phase_of (keeper.memory.plans ++ plan ∷ []);
          geometry = geometry_same i;
          memory = record keeper.memory { header = header_begun i; slot = slot_other i; plans = keeper.memory.plans ++ plan ∷ []; area = next };
        }

  -- the map is written
  module _ (plan : PlanState) (rest : List PlanState) (is : keeper.memory.plans ≡ plan ∷ rest) (after : List Kind) (mapped : plan.mapped ≡ Some after) (base_fits : keeper.base < 18446744073709551616)
      (header : Header) (base : ℕ) (base_at : base ≡ last_number plan.first) (header_is : IsRenewed keeper.memory.header (without_first keeper.memory.header base) header) where
    fits : keeps.stands.header.base < 18446744073709551616
    fits = omega (arith, base_fits, keeps.from_base)

    header_ended : header ≡ ended_header keeper state image number keeps plan rest is after mapped
    header_ended =
        let several = many keeper state image number keeps plan rest is after mapped in
        same_fields header (ended_header keeper state image number keeps plan rest is after mapped)
        (header_is.generation ∙ ap (λ (h : Header). h.generation + 1) keeps.headed)
        (header_is.geometry ∙ ap (λ (h : Header). h.geometry) keeps.headed)
        (omega (arith, header_is.before_last, ap (λ (h : Header). h.before_last) keeps.headed, several))
        (header_is.first_area ∙ ap (λ (h : Header). next_of (areas_in h.geometry) h.first_area) keeps.headed)
        (header_is.map_slot ∙ ap (λ (h : Header). other_of h.map_slot) keeps.headed)
        (header_is.base ∙ base_at ∙ sym (base_is keeper state image number keeps plan rest is after mapped extent fits))

    pub finish_next : ComesNext keeper.memory.header header
    finish_next = record {
      generation = header_is.generation;
      blocks = ap (λ (size : Geometry). size.blocks) header_is.geometry;
      area = ap (λ (size : Geometry). size.area) header_is.geometry;
    }

    pub finish_left : (content : List ℕ) → LeavesEither state extent keeper.memory.header keeper.memory.slot header content → StandsFor content image number
    finish_left content left =
        end_left keeper state image number keeps plan rest is after mapped extent sound fits content
        (subst (λ (h : Header). LeavesEither state extent keeps.stands.header keeps.stands.slot h content) header_ended
        (subst (λ (slot : Side). LeavesEither state extent keeps.stands.header slot header content) keeps.slotted
        (subst (λ (h : Header). LeavesEither state extent h keeper.memory.slot header content) keeps.headed left)))

    pub finish_kept : (later : State) → IsSound extent later → (now : KeeperState D) → IsInPlace state extent header (other_of keeper.memory.slot) later
        → now ≡ record keeper {
          disk = now.disk;
          generation = header.generation;
          base = header.base;
          turned = now.turned;
          lefts = now.lefts;
          phase = phase_of rest;
          memory = record keeper.memory { header = header; slot = other_of keeper.memory.slot; map = after; plans = rest };
        } → KeepsLists now later image number (parts keeper state image number keeps plan rest is after mapped).others keeps.areas.groups
    finish_kept later then_sound now placed now_is =
        keeps_ended keeper state image number keeps plan rest is after mapped extent sound fits later then_sound now header header_ended
        (subst (λ (slot : Side). IsInPlace state extent header (other_of slot) later) keeps.slotted placed)
        (now_is ∙ ap (λ (slot : Side). record keeper {
          disk = now.disk;
          generation = header.generation;
          base = header.base;
          turned = now.turned;
          lefts = now.lefts;
          phase = phase_of rest;
          memory = record keeper.memory { header = header; slot = other_of slot; map = after; plans = rest };
        }) keeps.slotted)

-- what the keeper holds, once its last area stands before another
pub rotate_held : {D : Type 0} (keeper : KeeperState D) (state : State) (base : Image) (fronts : List (List Change)) (last : List Change) (holds : Holds keeper state base fronts last) {extent : ℕ} (sound : IsSound extent state)
    (header : Header) (header_is : IsRenewed keeper.memory.header (with_next keeper.memory.header) header) (room : keeper.memory.header.before_last + 1 < areas_in keeper.memory.header.geometry)
    (from : ℕ) (from_is : from ≡ area_at keeper.geometry (behind (areas_in keeper.geometry) (suc keeper.memory.header.before_last) keeper.memory.header.first_area))
    (after : State) → IsSound extent after → (now : KeeperState D) (slot : Side) (next : AreaState) (plan : PlanState) → slot ≡ other_of keeper.memory.slot → IsAreaStarted state extent from header (other_of keeper.memory.slot) after
    → next ≡ record { from = from; bytes = area_size keeper.geometry; blocks = keeper.geometry.blocks; next = keeper.memory.area.next; gate = 0; touched = [] }
    → IsPlanOf keeper.memory.area plan
    → now ≡ record keeper {
      disk = now.disk;
      generation = header.generation;
      base = header.base;
      used = next.gate;
      turned = now.turned;
      lefts = now.lefts;
      phase = phase_of (keeper.memory.plans ++ plan ∷ []);
      geometry = header.geometry;
      memory = record keeper.memory { header = header; slot = slot; plans = keeper.memory.plans ++ plan ∷ []; area = next };
    } → Holds now after base (fronts ++ last ∷ []) []
rotate_held {D} keeper state base fronts last holds sound header header_is room from from_is after after_sound now slot next plan slot_is turn next_is plan_is now_is =
    holds_begun keeper state base fronts last holds now after
    (rotate_kept keeper state _ _ holds.keeps sound header header_is room from from_is after after_sound now slot next plan slot_is turn next_is plan_is now_is)
    (ap (λ (k : KeeperState D). k.base) now_is ∙ base_same keeper state _ _ holds.keeps sound header header_is room from from_is)
    (ap (λ (k : KeeperState D). k.geometry) now_is ∙ geometry_same keeper state _ _ holds.keeps sound header header_is room from from_is)
    (ap (λ (k : KeeperState D). k.memory.map) now_is)
    (λ block offset small none. data_stay keeper state _ _ holds.keeps sound header header_is room from from_is after turn (block_at holds.keeps.stands.header.geometry block + offset) (omega arith))

-- and once the first area was let go
pub finish_held : {D : Type 0} (keeper : KeeperState D) (state : State) (base : Image) (first : List Change) (others : List (List Change)) (last : List Change) (holds : Holds keeper state base (first ∷ others) last) {extent : ℕ} (sound : IsSound extent state)
    (plan : PlanState) (rest : List PlanState) (is : keeper.memory.plans ≡ plan ∷ rest) (after : List Kind) (mapped : plan.mapped ≡ Some after) (base_fits : keeper.base < 18446744073709551616)
    (header : Header) (number : ℕ) (number_at : number ≡ last_number plan.first) (header_is : IsRenewed keeper.memory.header (without_first keeper.memory.header number) header)
    (later : State) → IsSound extent later → (now : KeeperState D) → IsInPlace state extent header (other_of keeper.memory.slot) later
    → now ≡ record keeper {
      disk = now.disk;
      generation = header.generation;
      base = header.base;
      turned = now.turned;
      lefts = now.lefts;
      phase = phase_of rest;
      memory = record keeper.memory { header = header; slot = other_of keeper.memory.slot; map = after; plans = rest };
    } → Holds now later (apply_all first base) others last
finish_held {D} keeper state base first others last holds sound plan rest is after mapped base_fits header number number_at header_is later later_sound now placed now_is =
    holds_ended keeper state base first others last holds plan rest is after mapped _ sound (omega (arith, base_fits, holds.keeps.from_base)) now later (later_sound.size ∙ sym sound.size)
    (λ place above. placed.others place above (holds.keeps.steady place))
    (finish_kept keeper state _ _ holds.keeps sound plan rest is after mapped base_fits header number number_at header_is later later_sound now placed now_is)
    (let base_is = ap (λ (h : Header). h.base) (header_ended keeper state _ _ holds.keeps sound plan rest is after mapped base_fits header number number_at header_is) in
    let now_base = ap (λ (k : KeeperState D). k.base) now_is in
    omega (arith, now_base, base_is, holds.keeps.from_base))
    (ap (λ (k : KeeperState D). k.geometry) now_is) (ap (λ (k : KeeperState D). k.memory.map) now_is)

-- what is known where the map is written
pub record IsEnding (plans : List PlanState) (base : ℕ) (map : List Kind) : Type 0 where
  pub plan : PlanState
  pub rest : List PlanState
  pub is : plans ≡ plan ∷ rest
  pub after : List Kind
  pub mapped : plan.mapped ≡ Some after
  pub base_at : base ≡ last_number plan.first
  pub map_is : map_after plans map ≡ after

ending_in : (plan : PlanState) (rest : List PlanState) (mapped : Option (List Kind)) (base old : ℕ) (map : List Kind) → plan.mapped ≡ mapped → IsFinishTime (phase_in plan.left mapped) → base ≡ first_turned old (turned_of (plan ∷ rest)) → IsEnding (plan ∷ rest) base map
ending_in plan rest None base old map is time base_is = absurd time
ending_in plan rest (Some after) base old map is time base_is = record {
  plan = plan;
  rest = rest;
  is = refl;
  after = after;
  mapped = is;
  base_at = base_is;
  map_is = ap (λ (m : Option (List Kind)). map_in m map) is;
}

pub ending : (plans : List PlanState) (base old : ℕ) (map : List Kind) → IsFinishTime (phase_of plans) → base ≡ first_turned old (turned_of plans) → IsEnding plans base map
ending [] base old map time base_is = absurd time
ending (plan ∷ rest) base old map time base_is = ending_in plan rest plan.mapped base old map refl time base_is

-- the keeper as it then is, with the map that was written
pub in_map : {D : Type 0} (keeper : KeeperState D) (disk : D) (header : Header) (plans rest : List PlanState) (map after : List Kind) → plans ≡ rest → map ≡ after
    → record keeper {
      disk = disk;
      generation = header.generation;
      base = header.base;
      turned = turned_of plans;
      lefts = lefts_of plans;
      phase = phase_of plans;
      memory = record keeper.memory { header = header; slot = other_of keeper.memory.slot; map = map; plans = plans };
    }
    ≡ record keeper {
      disk = disk;
      generation = header.generation;
      base = header.base;
      turned = turned_of plans;
      lefts = lefts_of plans;
      phase = phase_of rest;
      memory = record keeper.memory { header = header; slot = other_of keeper.memory.slot; map = after; plans = rest };
    }
in_map keeper disk header plans rest map after plans_are same = λ i. record keeper {
  disk = disk;
  generation = header.generation;
  base = header.base;
  turned = turned_of plans;
  lefts = lefts_of plans;
  phase = phase_of (plans_are i);
  memory = record keeper.memory { header = header; slot = other_of keeper.memory.slot; map = same i; plans = plans_are i };
}

-- the invariant of the checkpoints once another one is after them
sized_more : (plans : List PlanState) (plan : PlanState) (geometry : Geometry) (extent : ℕ) → AreSized plans geometry extent → IsSized plan.first geometry extent → AreSized (plans ++ plan ∷ []) geometry extent
sized_more [] plan geometry extent are is = (is, tt)
sized_more (first ∷ plans) plan geometry extent are is = (are.0, sized_more plans plan geometry extent are.1 is)

some_or_none : {plan : PlanState} → Some plan ≡ None → ⊥
some_or_none is = cc

pub record ArePlansSized (plan : Option PlanState) (waiting : List PlanState) (geometry : Geometry) (extent count : ℕ) : Type 0 where
  pub first : IfSome plan (λ first. IsSized first.first geometry extent)
  pub behind : AreSized waiting geometry extent
  pub none : plan ≡ None → waiting ≡ []
  pub many : count ≡ length (plans_of plan waiting)

pub sized_after : (old new : Option PlanState) (waiting more : List PlanState) (last : PlanState) (geometry : Geometry) (extent count : ℕ) → IfNone old ((new ≡ Some last) × (more ≡ []))
    → IfSome old (λ first. (new ≡ Some first) × (more ≡ waiting ++ last ∷ [])) → ArePlansSized old waiting geometry extent count → IsSized last.first geometry extent → ArePlansSized new more geometry extent (count + 1)
sized_after None new waiting more last geometry extent count none some sized is = record {
  first = subst (λ (plan : Option PlanState). IfSome plan (λ first. IsSized first.first geometry extent)) (sym none.0) is;
  behind = subst (λ (plans : List PlanState). AreSized plans geometry extent) (sym none.1) tt;
  none = λ absent. absurd (some_or_none (sym none.0 ∙ absent));
  many = omega (arith, sized.many, ap (λ (plan : Option PlanState). length (plans_of plan more)) none.0, ap (λ (plans : List PlanState). length plans) none.1);
}
sized_after (Some first) new waiting more last geometry extent count none some sized is = record {
  first = subst (λ (plan : Option PlanState). IfSome plan (λ first. IsSized first.first geometry extent)) (sym some.0) sized.first;
  behind = subst (λ (plans : List PlanState). AreSized plans geometry extent) (sym some.1) (sized_more waiting last geometry extent sized.behind is);
  none = λ absent. absurd (some_or_none (sym some.0 ∙ absent));
  many = omega (arith, sized.many, ap (λ (plan : Option PlanState). length (plans_of plan more)) some.0, ap (λ (plans : List PlanState). length plans) some.1, length-append waiting (last ∷ []));
}

-- and once the first of them is taken out
pub sized_behind : (old new : Option PlanState) (waiting more : List PlanState) (geometry : Geometry) (extent count : ℕ) → 0 < count → plans_of new more ≡ waiting → (new ≡ None → more ≡ []) → ArePlansSized old waiting geometry extent count
    → ArePlansSized new more geometry extent (count - 1)
sized_behind None new waiting more geometry extent count some are none sized = absurd (omega (arith, some, sized.many))
sized_behind (Some first) None waiting more geometry extent count some are none sized = record {
  first = tt;
  behind = subst (λ (plans : List PlanState). AreSized plans geometry extent) (sym (none refl)) tt;
  none = none;
  many = omega (arith, sized.many, ap (λ (plans : List PlanState). length plans) are);
}
sized_behind (Some first) (Some second) waiting more geometry extent count some are none sized =
    let all : AreSized (second ∷ more) geometry extent = subst (λ (plans : List PlanState). AreSized plans geometry extent) (sym are) sized.behind in
    record {
      first = all.0;
      behind = all.1;
      none = none;
      many = omega (arith, sized.many, ap (λ (plans : List PlanState). length plans) are);
    }

-- what was read is what waits, but for the first
pub sized_read : (new : Option PlanState) (waiting more : List PlanState) (geometry : Geometry) (extent count : ℕ) → plans_of new more ≡ waiting → (new ≡ None → more ≡ []) → AreSized waiting geometry extent → count ≡ length waiting
    → ArePlansSized new more geometry extent count
sized_read None waiting more geometry extent count are none sized many = record {
  first = tt;
  behind = subst (λ (plans : List PlanState). AreSized plans geometry extent) (sym (none refl)) tt;
  none = none;
  many = many ∙ sym (ap (λ (plans : List PlanState). length plans) are);
}
sized_read (Some first) waiting more geometry extent count are none sized many =
    let all : AreSized (first ∷ more) geometry extent = subst (λ (plans : List PlanState). AreSized plans geometry extent) (sym are) sized in
    record {
      first = all.0;
      behind = all.1;
      none = none;
      many = many ∙ sym (ap (λ (plans : List PlanState). length plans) are);
    }

-- the area after those in use, once its list is empty
pub next_sized : (area : AreaState) (geometry : Geometry) (n first extent : ℕ) → first < areas_in geometry → area.from ≡ area_at geometry (behind (areas_in geometry) n first) → area.bytes ≡ area_size geometry → area.blocks ≡ geometry.blocks
    → extent ≡ device_bytes_of geometry.blocks geometry.area → IsSized area geometry extent
next_sized area geometry n first extent inside from bytes blocks size = record {
  bytes = bytes;
  blocks = blocks;
  inside = omega (arith, from, bytes, size, area_high geometry (behind (areas_in geometry) n first) (behind_below (areas_in geometry) n first inside));
}

-- how many blocks the last area leaves to copy
pub rotated_left : {D : Type 0} (keeper : KeeperState D) (plan : PlanState) (commands : List Change) → keeper.memory.area.blocks ≡ keeper.geometry.blocks
    → IsPlanOf keeper.memory.area plan → Remembers keeper commands
    → plan.left ≡ len (dirty_blocks 0 commands)
rotated_left keeper plan commands blocks plan_is remembers =
    plan_left keeper.memory.area plan plan_is
    ∙ ap (λ (b : ℕ). count_puts b keeper.memory.area.touched) blocks
    ∙ left_dirty keeper commands remembers

-- the number of the last command before the last area once the first was let go
pub last_behind : (old new : Option PlanState) (waiting more : List PlanState) (base now : ℕ) → 0 < length (plans_of old waiting) → plans_of new more ≡ waiting → now ≡ first_turned base (turned_of (plans_of old waiting))
    → last_turned base (turned_of (plans_of old waiting)) ≡ last_turned now (turned_of (plans_of new more))
last_behind None new waiting more base now some are now_is = absurd (omega (arith, some))
last_behind (Some first) new waiting more base now some are now_is =
    ap (λ (n : ℕ). last_turned n (turned_of waiting)) (sym now_is) ∙ ap (λ (plans : List PlanState). last_turned now (turned_of plans)) (sym are)

-- the map of a checkpoint is written where one is under way
pub time_some : (plans : List PlanState) → IsFinishTime (phase_of plans) → 0 < length plans
time_some [] time = absurd time
time_some (plan ∷ plans) time = omega arith

-- these numbers have 64 bits
pub last_fits : (base : ℕ) (plans : List PlanState) → base < 18446744073709551616 → last_turned base (turned_of plans) < 18446744073709551616
last_fits base [] fits = fits
last_fits base (plan ∷ plans) fits = last_fits (last_number plan.first) plans (omega arith)

pub counted_read : (base next count : ℕ) (plans : List PlanState) → base < 18446744073709551616 → next ≡ next_number (last_turned base (turned_of plans)) → count ≡ (next + 18446744073709551615) % 18446744073709551616
    → count ≡ last_turned base (turned_of plans)
counted_read base next count plans fits next_is count_is = let all = last_fits base plans fits in omega (arith, all, next_is, count_is)
