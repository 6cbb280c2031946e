-- What a keeper keeps once a call has written where it is free.
use Rattle.std.proofs.Common.{◌≡◌, ℕ, ◌+◌, ◌*◌, ◌<◌, List, [], ◌∷◌, length, slice_index, refl, sym, subst, arith}
use Rattle.disk_model.specs.Disk.{State, InRange, IsSteady}
use Rattle.header_slots.specs.declared.header.Header.{Header}
use Rattle.image_model.specs.Image.{Image}
use Rattle.image_model.specs.declared.geometry.Geometry.{Geometry}
use Rattle.journal_format.specs.Area.{AreaState}
use Rattle.journal_format.specs.GroupList.{next_behind}
use Rattle.journal_format.specs.Spelling.{StoredGroup}
use Rattle.regions.specs.Layout.{area_at, area_size, areas_in}
use Rattle.regions.specs.laws.Ring.{area_high, behind_apart}
use Rattle.device_image.specs.inner.Free.{IsFree}
use Rattle.device_image.specs.Keeper.{KeeperState, PlanState, earlier_of, phase_of}
use Rattle.device_image.specs.Keeps.{AreHeld, HoldsAreas, IsCopyPlace, IsInPhase, Keeps}
use Rattle.device_image.specs.Stands.{areas_before_last, last_area, next_number}
use Rattle.device_image.specs.laws.Frame.{fronts_of, last_high, last_inside, one_kept, one_listed}
use Rattle.device_image.specs.laws.Lists.{KeepsLists}
use Rattle.device_image.specs.laws.Free.{AreInside, AreSame, area_same, areas_same, free_content, before_last_used, ring_inside}

-- areas that are held still are where their bytes stay
pub held_stay : (sides : List ℕ) (geometry : Geometry) (next : ℕ) (lists : List (List StoredGroup)) (areas : List AreaState) (before after : State) → AreInside geometry sides → AreSame sides geometry before.seen after.seen
    → ((place : ℕ) → place < 8192 + 2 * geometry.area → after.unsynced place → ⊥) → AreHeld sides geometry next lists areas before → AreHeld sides geometry next lists areas after
held_stay [] geometry next [] [] before after inside same synced held = tt
held_stay [] geometry next [] (area ∷ areas) before after inside same synced held = absurd held
held_stay [] geometry next (groups ∷ lists) areas before after inside same synced held = absurd held
held_stay (side ∷ sides) geometry next [] areas before after inside same synced held = absurd held
held_stay (side ∷ sides) geometry next (groups ∷ lists) [] before after inside same synced held = absurd held
held_stay (side ∷ sides) geometry next (groups ∷ lists) (area ∷ areas) before after inside same synced held = (
  held.0,
  one_listed area geometry side next groups before after held.0 same.0 (λ place here. synced place (omega (arith, area_high geometry side inside.0, here.1))) held.1,
  held_stay sides geometry (next_behind next groups) lists areas before after inside.1 same.1 synced held.2,
)

module _ (old content : List ℕ) (header : Header) (front : List (List StoredGroup)) (same : (place : ℕ) → (IsFree header front place → ⊥) → slice_index content place ≡ slice_index old place) where
  pub fronts_inside : AreInside header.geometry (areas_before_last header)
  fronts_inside = ring_inside header.geometry header.before_last header.first_area header.first_inside

  pub fronts_same : AreSame (areas_before_last header) header.geometry old content
  fronts_same = areas_same old content header front (λ place above. same place) (areas_before_last header) fronts_inside (before_last_used header)

  pub last_same : (place : ℕ) → InRange (area_at header.geometry (last_area header)) (area_size header.geometry) place → slice_index content place ≡ slice_index old place
  last_same = area_same old content header front (λ place above. same place) (last_area header) (last_inside header)
      (λ places behind_it few. behind_apart (areas_in header.geometry) header.before_last places header.first_area header.first_inside behind_it few)

-- the keeper goes on keeping the image, in the phase that is told
module _ {D : Type 0} (keeper : KeeperState D) (before : State) (image : Image) (number : ℕ) (keeps : Keeps keeper before image number) (after : State)
    (size : length after.seen ≡ length before.seen)
    (same : (place : ℕ) → (IsFree keeps.stands.header keeps.areas.front place → ⊥) → slice_index after.seen place ≡ slice_index before.seen place)
    (unsynced : (place : ℕ) → after.unsynced place → IsCopyPlace keeps.stands.header keeps.areas.front place)
    (steady : IsSteady after) where
  abbrev pub low_synced_after : (place : ℕ) → place < 8192 + 2 * keeps.stands.header.geometry.area → after.unsynced place → ⊥
  low_synced_after place below is = let copy = unsynced place is in omega (arith, below, copy.inside.0)

  abbrev pub areas_after : HoldsAreas after keeps.stands.header keeps.stands.lists (earlier_of keeper.memory.plans) keeper.memory.area
  areas_after =
      let header = keeps.stands.header in
      record {
        front = keeps.areas.front;
        groups = keeps.areas.groups;
        are = keeps.areas.are;
        earlier_held = held_stay (fronts_of keeps.stands) header.geometry (next_number header.base) keeps.areas.front (earlier_of keeper.memory.plans) before after
            (fronts_inside before.seen after.seen header keeps.areas.front same) (fronts_same before.seen after.seen header keeps.areas.front same) low_synced_after keeps.areas.earlier_held;
        placed = keeps.areas.placed;
        held = one_kept keeper.memory.area header.geometry (last_area header) _ keeps.areas.groups before after keeps.areas.placed
            (last_same before.seen after.seen header keeps.areas.front same)
            (λ place here. low_synced_after place (omega (arith, last_high header, here.1))) keeps.areas.held;
      }

  -- the same keeper but for its device and how far the checkpoint is
  pub keeps_after : (now : KeeperState D) (plans : List PlanState) → earlier_of plans ≡ earlier_of keeper.memory.plans → IsInPhase plans after keeps.stands.header keeps.stands.states keeps.areas.front
      → now ≡ record keeper { disk = now.disk; turned = now.turned; lefts = now.lefts; phase = phase_of plans; memory = record keeper.memory { plans = plans } }
      → KeepsLists now after image number keeps.areas.front keeps.areas.groups
  keeps_after now plans earlier phased is =
      subst (λ (k : KeeperState D). KeepsLists k after image number keeps.areas.front keeps.areas.groups) (sym is) (record {
        keeps = record {
          works = keeps.works;
          steady = steady;
          stands = free_content keeper before image number keeps after.seen size same;
          sizes = keeps.sizes;
          generation = keeps.generation;
          from_base = keeps.from_base;
          headed = keeps.headed;
          slotted = keeps.slotted;
          counted = keeps.counted;
          mapped = keeps.mapped;
          areas = record {
            front = keeps.areas.front;
            groups = keeps.areas.groups;
            are = keeps.areas.are;
            earlier_held = subst (λ (areas : List AreaState). AreHeld (fronts_of keeps.stands) keeps.stands.header.geometry (next_number keeps.stands.header.base) keeps.areas.front areas after) (sym earlier)
                areas_after.earlier_held;
            placed = keeps.areas.placed;
            held = areas_after.held;
          };
          taken = keeps.taken;
          phase = refl;
          phased = phased;
          unsynced = unsynced;
        };
        front_is = refl;
        groups_are = refl;
      })
