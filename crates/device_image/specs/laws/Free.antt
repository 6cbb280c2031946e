-- What a device stands for where only what is free was written.
use Rattle.std.proofs.Common.{◌≡◌, ◌≢◌, ℕ, zero, suc, ◌+◌, ◌*◌, ◌≤◌, ◌<◌, List, [], ◌∷◌, ◌++◌, length, slice_index, sym, ◌∙◌, ap, arith}
use Rattle.disk_model.specs.Disk.{State, InRange, MayLeaveTorn}
use Rattle.header_slots.specs.Slots.{HoldsHeader}
use Rattle.header_slots.specs.declared.header.Header.{Header}
use Rattle.image_model.specs.Geometry.{map_bytes_of}
use Rattle.image_model.specs.Image.{Image, apply_all}
use Rattle.image_model.specs.Side.{other_of}
use Rattle.image_model.specs.declared.command.Kind.{Kind}
use Rattle.image_model.specs.declared.geometry.Geometry.{Geometry}
use Rattle.image_model.specs.declared.side.Side.{Side}
use Rattle.image_model.specs.declared.side.Side.TheVariants.{Zero, One}
use Rattle.journal_format.specs.GroupList.{next_behind}
use Rattle.journal_format.specs.Spelling.{StoredGroup}
use Rattle.regions.specs.Layout.{area_at, area_size, areas_in, behind, block_at, map_at, next_of, ring}
use Rattle.regions.specs.Map.{HoldsMap}
use Rattle.regions.specs.laws.Ring.{apart, area_high, area_low, behind_below, next_below}
use Rattle.device_image.specs.inner.Free.{IsFree, in_spare_area, in_spare_map, to_be_copied}
use Rattle.device_image.specs.Keeper.{KeeperState}
use Rattle.device_image.specs.Keeps.{IsCopyPlace, Keeps}
use Rattle.device_image.specs.Stands.{StandsFor, HoldLists, all_changes, area_of, areas_before_last, in_use, next_number, stored_image}
use Rattle.device_image.specs.laws.Frame.{AreOthers, copied_images, fronts_of, header_kept, list_kept, map_high, map_low, others_behind}
use Rattle.device_image.specs.laws.Kept.{held}

-- a place of the one map slot isn't one of the other
maps_apart : (geometry : Geometry) (slot : Side) (place : ℕ) → InRange (map_at geometry slot) (map_bytes_of geometry.blocks) place → InRange (map_at geometry (other_of slot)) (map_bytes_of geometry.blocks) place → ⊥
maps_apart geometry Zero place here there = omega (arith, here.0, here.1, there.0, there.1)
maps_apart geometry One place here there = omega (arith, here.0, here.1, there.0, there.1)

module _ (header : Header) (front : List (List StoredGroup)) (place : ℕ) where
  -- the areas this many places after the first
  spare_low : (places : ℕ) → 8192 ≤ area_at header.geometry (behind (areas_in header.geometry) places header.first_area)
  spare_low places = area_low header.geometry (behind (areas_in header.geometry) places header.first_area)

  spare_high : (places : ℕ) → area_at header.geometry (behind (areas_in header.geometry) places header.first_area) + area_size header.geometry ≤ 8192 + 2 * header.geometry.area
  spare_high places = area_high header.geometry (behind (areas_in header.geometry) places header.first_area) (behind_below (areas_in header.geometry) places header.first_area header.first_inside)

  pub low_used : place < 8192 → IsFree header front place → ⊥
  low_used below (in_spare_area places behind_it few within) = omega (arith, below, within.0, spare_low places)
  low_used below (in_spare_map within) = omega (arith, below, within.0, map_low header.geometry (other_of header.map_slot))
  low_used below (to_be_copied copy) = omega (arith, below, copy.inside.0)

  pub map_used : InRange (map_at header.geometry header.map_slot) (map_bytes_of header.geometry.blocks) place → IsFree header front place → ⊥
  map_used here (in_spare_area places behind_it few within) = omega (arith, here.0, within.1, spare_high places, map_low header.geometry header.map_slot)
  map_used here (in_spare_map within) = maps_apart header.geometry header.map_slot place here within
  map_used here (to_be_copied copy) = omega (arith, here.1, copy.inside.0, map_high header.geometry header.map_slot)

  -- an area that no spare one is
  pub area_used : (area : ℕ) → area < areas_in header.geometry
      → ((places : ℕ) → header.before_last < places → places < areas_in header.geometry → area ≢ behind (areas_in header.geometry) places header.first_area)
      → InRange (area_at header.geometry area) (area_size header.geometry) place → IsFree header front place → ⊥
  area_used area inside others here (in_spare_area places behind_it few within) =
      apart header.geometry area (behind (areas_in header.geometry) places header.first_area) place (others places behind_it few) here within
  area_used area inside others here (in_spare_map within) = omega (arith, here.1, within.0, area_high header.geometry area inside, map_low header.geometry (other_of header.map_slot))
  area_used area inside others here (to_be_copied copy) = omega (arith, here.1, copy.inside.0, area_high header.geometry area inside)

  pub data_used : block_at header.geometry 0 ≤ place → (IsCopyPlace header front place → ⊥) → IsFree header front place → ⊥
  data_used here none (in_spare_area places behind_it few within) = omega (arith, here, within.1, spare_high places)
  data_used here none (in_spare_map within) = omega (arith, here, within.1, map_high header.geometry (other_of header.map_slot))
  data_used here none (to_be_copied copy) = none copy

-- areas whose bytes stay
abbrev pub AreSame : List ℕ → Geometry → List ℕ → List ℕ → Type 0
AreSame [] geometry old content = Unit {0}
AreSame (area ∷ areas) geometry old content =
    ((place : ℕ) → InRange (area_at geometry area) (area_size geometry) place → slice_index content place ≡ slice_index old place) × AreSame areas geometry old content

pub lists_stay : (areas : List ℕ) (old content : List ℕ) (geometry : Geometry) (next : ℕ) (lists : List (List StoredGroup)) → AreSame areas geometry old content
    → HoldLists areas old geometry next lists → HoldLists areas content geometry next lists
lists_stay [] old content geometry next [] same holds = tt
lists_stay [] old content geometry next (groups ∷ lists) same holds = absurd holds
lists_stay (area ∷ areas) old content geometry next [] same holds = absurd holds
lists_stay (area ∷ areas) old content geometry next (groups ∷ lists) same holds =
    (list_kept (area_of geometry area) next groups old content same.0 holds.0, lists_stay areas old content geometry (next_behind next groups) lists same.1 holds.1)

-- none of these areas is a spare one
abbrev pub AreUsed : Header → List ℕ → Type 0
AreUsed header areas = (places : ℕ) → header.before_last < places → places < areas_in header.geometry → AreOthers header.geometry areas (behind (areas_in header.geometry) places header.first_area)

abbrev pub AreInside : Geometry → List ℕ → Type 0
AreInside geometry [] = Unit {0}
AreInside geometry (area ∷ areas) = (area < areas_in geometry) × AreInside geometry areas

pub ring_inside : (geometry : Geometry) (n area : ℕ) → area < areas_in geometry → AreInside geometry (ring (areas_in geometry) n area)
ring_inside geometry zero area inside = tt
ring_inside geometry (suc n) area inside = (inside, ring_inside geometry n (next_of (areas_in geometry) area) (next_below (areas_in geometry) area inside))

-- the areas in use, and those before the last, are none of the spare ones
pub in_use_used : (header : Header) → AreUsed header (in_use header)
in_use_used header places behind_it few = others_behind header.geometry (suc header.before_last) places header.first_area header.first_inside (omega (arith, behind_it)) few

pub before_last_used : (header : Header) → AreUsed header (areas_before_last header)
before_last_used header places behind_it few = others_behind header.geometry header.before_last places header.first_area header.first_inside (omega (arith, behind_it)) few

module _ (old content : List ℕ) (header : Header) (front : List (List StoredGroup)) (same : (place : ℕ) → 8192 ≤ place → (IsFree header front place → ⊥) → slice_index content place ≡ slice_index old place) where
  -- an area in use stays
  pub area_same : (area : ℕ) → area < areas_in header.geometry → ((places : ℕ) → header.before_last < places → places < areas_in header.geometry → area ≢ behind (areas_in header.geometry) places header.first_area)
      → (place : ℕ) → InRange (area_at header.geometry area) (area_size header.geometry) place → slice_index content place ≡ slice_index old place
  area_same area inside others place here = same place (omega (arith, here.0, area_low header.geometry area)) (area_used header front place area inside others here)

  pub areas_same : (areas : List ℕ) → AreInside header.geometry areas → AreUsed header areas → AreSame areas header.geometry old content
  areas_same [] inside used = tt
  areas_same (area ∷ areas) inside used = (
    area_same area inside.0 (λ places behind_it few. (used places behind_it few).1),
    areas_same areas inside.1 (λ places behind_it few. (used places behind_it few).2),
  )

  pub map_stays : (states : List Kind) → HoldsMap old (map_at header.geometry header.map_slot) header.geometry.blocks states → HoldsMap content (map_at header.geometry header.map_slot) header.geometry.blocks states
  map_stays states map = record {
    bytes = map.bytes;
    slot = record {
      size = map.slot.size;
      same = λ k below. map.slot.same k below
          ∙ sym (same (map_at header.geometry header.map_slot + k) (omega (arith, map_low header.geometry header.map_slot)) (map_used header front (map_at header.geometry header.map_slot + k) (omega arith, omega (arith, below))));
    };
    count = map.count;
    map = map.map;
  }

module _ (old content : List ℕ) (image : Image) (number : ℕ) (stands : StandsFor old image number) (front : List (List StoredGroup)) (groups : List StoredGroup)
    (are : stands.lists ≡ front ++ groups ∷ [])
    (same : (place : ℕ) → 8192 ≤ place → (IsFree stands.header front place → ⊥) → slice_index content place ≡ slice_index old place)
    (holds : HoldLists (fronts_of stands) old stands.header.geometry (next_number stands.header.base) front) where
  pub lists_still : HoldLists (in_use stands.header) content stands.header.geometry (next_number stands.header.base) stands.lists
  lists_still =
      let header = stands.header in
      lists_stay (in_use header) old content header.geometry (next_number header.base) stands.lists
      (areas_same old content header front same (in_use header) (ring_inside header.geometry (suc header.before_last) header.first_area header.first_inside) (in_use_used header)) stands.held

  pub shows_still : image ≡ apply_all (all_changes stands.lists) (stored_image content stands.header.geometry stands.states)
  shows_still =
      let header = stands.header in
      stands.shows
      ∙ ap (λ (lists : List (List StoredGroup)). apply_all (all_changes lists) (stored_image old header.geometry stands.states)) are
      ∙ copied_images (areas_in header.geometry) header.before_last old content header (next_number header.base) front (groups ∷ []) stands.states
      (λ place above none. same place (omega (arith, above)) (data_used header front place above none)) holds
      ∙ ap (λ (lists : List (List StoredGroup)). apply_all (all_changes lists) (stored_image content header.geometry stands.states)) (sym are)

  -- with the header, the map and the lists that it had
  abbrev pub stands_still : HoldsHeader content (length content) stands.header stands.slot → StandsFor content image number
  stands_still in_force = record {
    header = stands.header;
    slot = stands.slot;
    states = stands.states;
    lists = stands.lists;
    in_force = in_force;
    map = map_stays old content stands.header front same stands.states stands.map;
    held = lists_still;
    count = stands.count;
    shows = shows_still;
  }

-- and so for a keeper, also while a write is under way
module _ {D : Type 0} (keeper : KeeperState D) (state : State) (image : Image) (number : ℕ) (keeps : Keeps keeper state image number) where
  abbrev pub free_content : (content : List ℕ) → length content ≡ length state.seen
      → ((place : ℕ) → (IsFree keeps.stands.header keeps.areas.front place → ⊥) → slice_index content place ≡ slice_index state.seen place) → StandsFor content image number
  free_content content size same =
      stands_still state.seen content image number keeps.stands keeps.areas.front keeps.areas.groups keeps.areas.are
      (λ place above. same place) (held keeper state image number keeps)
      (header_kept state.seen content keeps.stands.header keeps.stands.slot size (λ place below. same place (low_used keeps.stands.header keeps.areas.front place below)) keeps.stands.in_force)

  pub torn_free : (offset count : ℕ) → ((place : ℕ) → InRange offset count place → IsFree keeps.stands.header keeps.areas.front place) → (content : List ℕ) → MayLeaveTorn state offset count content
      → StandsFor content image number
  torn_free offset count free content left = free_content content left.size
      (λ place none. left.same place (λ unsynced. none (to_be_copied (keeps.unsynced place unsynced))) (λ within. none (free place within)))
