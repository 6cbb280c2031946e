-- What a device stands for where only its last area in use has changed, and data that are to be copied.
use Rattle.std.proofs.Common.{◌≡◌, ◌≢◌, ℕ, zero, suc, ◌+◌, ◌*◌, ◌/◌, ◌%◌, ◌≤◌, ◌<◌, Bool, false, IsTrue, if◌then◌else◌, Option, Some, None, List, [], ◌∷◌, ◌++◌, length, slice_index, Ok, refl, sym, ◌∙◌, ap, subst, arith}
use Rattle.std.proofs.lemmas.Grind.{flat_map-append}
use Rattle.alloc_map.specs.Codes.{state_at}
use Rattle.disk_model.specs.Disk.{State, InRange}
use Rattle.header_slots.specs.Slots.{HoldsHeader, IsReading}
use Rattle.image_model.specs.Geometry.{map_bytes_of}
use Rattle.header_slots.specs.declared.header.Header.{Header}
use Rattle.image_model.specs.declared.side.Side.{Side}
use Rattle.image_model.specs.declared.side.Side.TheVariants.{Zero, One}
use Rattle.header_slots.specs.laws.Frame.{same_reading}
use Rattle.image_model.specs.Change.{Change}
use Rattle.image_model.specs.Image.{Image, apply, apply_all}
use Rattle.image_model.specs.declared.command.Kind.{Kind}
use Rattle.image_model.specs.declared.geometry.Geometry.{Geometry}
use Rattle.journal_format.specs.Area.{AreaState}
use Rattle.journal_format.specs.GroupList.{IsHeld, IsList, sizes_of, Stand, next_behind, changes_of}
use Rattle.journal_format.specs.Spelling.{StoredGroup}
use Rattle.journal_format.specs.Touches.{byte_after_touch, kind_after, last_touch, touched_by_groups}
use Rattle.journal_format.specs.declared.touch.Touch.{Touch}
use Rattle.journal_format.specs.declared.touch.Touch.TheVariants.{Put, Clear}
use Rattle.journal_format.specs.laws.Contents.{list_ends, list_stays}
use Rattle.journal_format.specs.laws.LastTouches.{groups_kind, groups_byte}
use Rattle.regions.specs.Layout.{area_at, area_size, areas_in, behind, block_at, map_at, next_of, ring}
use Rattle.regions.specs.Map.{HoldsMap}
use Rattle.regions.specs.laws.Ring.{apart, area_high, area_low, behind_apart, behind_below, next_below, ring-last}
use Rattle.device_image.specs.Keeper.{is_put}
use Rattle.device_image.specs.Keeps.{AreHeld, IsCopyPlace, IsListed, IsPlaced, behind_lists}
use Rattle.device_image.specs.Stands.{StandsFor, HoldLists, all_changes, area_of, areas_before_last, is_data, last_area, next_number, stored_image}

-- the last area in use is one of the device's
pub last_inside : (header : Header) → last_area header < areas_in header.geometry
last_inside header = behind_below (areas_in header.geometry) header.before_last header.first_area header.first_inside

pub last_high : (header : Header) → area_at header.geometry (last_area header) + area_size header.geometry ≤ 8192 + 2 * header.geometry.area
last_high header = area_high header.geometry (last_area header) (last_inside header)

pub first_high : (header : Header) → area_at header.geometry header.first_area + area_size header.geometry ≤ 8192 + 2 * header.geometry.area
first_high header = area_high header.geometry header.first_area header.first_inside

-- a list depends on the area's place alone
pub moved_list : (area other : AreaState) (first : ℕ) (groups : List StoredGroup) (content : List ℕ) → area.from ≡ other.from → area.bytes ≡ other.bytes → area.blocks ≡ other.blocks
    → IsList area first groups content → IsList other first groups content
moved_list area other first groups content from bytes blocks list = record {
  stand = subst (λ (image : ℕ). Stand image content other.from first groups) blocks
      (subst (λ (place : ℕ). Stand area.blocks content place first groups) from list.stand);
  inside = subst (λ (n : ℕ). sizes_of groups < n) bytes list.inside;
}

-- where the area's bytes stay its list stays
pub list_kept : (area : AreaState) (first : ℕ) (groups : List StoredGroup) (old content : List ℕ) → ((place : ℕ) → InRange area.from area.bytes place → slice_index content place ≡ slice_index old place)
    → IsList area first groups old → IsList area first groups content
list_kept area first groups old content same list = record {
  stand = list_stays area.blocks old content area.from first groups
      (record { same = λ place low high. same place (low, omega (arith, high, list.inside)) })
      (λ is_open. list_ends area.blocks old area.from first groups list.stand (sym (same (area.from + sizes_of groups) (omega arith, omega (arith, list.inside))) ∙ is_open))
      list.stand;
  inside = list.inside;
}

pub map_low : (geometry : Geometry) (slot : Side) → 8192 + 2 * geometry.area ≤ map_at geometry slot
map_low geometry Zero = omega arith
map_low geometry One = omega arith

pub map_high : (geometry : Geometry) (slot : Side) → map_at geometry slot + map_bytes_of geometry.blocks ≤ block_at geometry 0
map_high geometry Zero = omega arith
map_high geometry One = omega arith

-- where the bytes of the map slots stay a map stays
pub map_kept : (old content : List ℕ) (states : List Kind) (geometry : Geometry) (slot : Side)
    → ((place : ℕ) → 8192 + 2 * geometry.area ≤ place → place < block_at geometry 0 → slice_index content place ≡ slice_index old place)
    → HoldsMap old (map_at geometry slot) geometry.blocks states → HoldsMap content (map_at geometry slot) geometry.blocks states
map_kept old content states geometry slot same map = record {
  bytes = map.bytes;
  slot = record {
    size = map.slot.size;
    same = λ k below. map.slot.same k below ∙ sym (same (map_at geometry slot + k) (omega (arith, map_low geometry slot)) (omega (arith, below, map_high geometry slot)));
  };
  count = map.count;
  map = map.map;
}

-- where the first 8,192 bytes stay the header in force stays
pub header_kept : (old content : List ℕ) (header : Header) (slot : Side) → length content ≡ length old → ((place : ℕ) → place < 8192 → slice_index content place ≡ slice_index old place)
    → HoldsHeader old (length old) header slot → HoldsHeader content (length content) header slot
header_kept old content header slot size same holds =
    let read : IsReading old (length old) (Ok (header, slot)) = holds in
    let kept : IsReading content (length old) (Ok (header, slot)) = same_reading old content (λ k below. sym (same k (omega arith))) (length old) (Ok (header, slot)) read in
    subst (λ (n : ℕ). HoldsHeader content n header slot) (sym size) kept

module _ (old content : List ℕ) (geometry : Geometry) (same : (place : ℕ) → block_at geometry 0 ≤ place → slice_index content place ≡ slice_index old place) where
  -- where the data stay, the stored image stays
  pub image_kept : (states : List Kind) → stored_image content geometry states ≡ stored_image old geometry states
  image_kept states = λ i. record {
    blocks = geometry.blocks;
    byte = λ place. if is_data (state_at states (place / 4096)) then same (block_at geometry 0 + place) (omega arith) i else 0;
    kind = λ block. state_at states block;
  }

pub apply_all-append : (changes more : List Change) (image : Image) → apply_all (changes ++ more) image ≡ apply_all more (apply_all changes image)
apply_all-append [] more image = refl
apply_all-append (change ∷ changes) more image = apply_all-append changes more (apply change image)

-- changes leave the size of an image
pub blocks-apply_all : (changes : List Change) (image : Image) → (apply_all changes image).blocks ≡ image.blocks
blocks-apply_all [] image = refl
blocks-apply_all (change ∷ changes) image = blocks-apply_all changes (apply change image)

pub changes-append : (groups more : List StoredGroup) → changes_of (groups ++ more) ≡ changes_of groups ++ changes_of more
changes-append groups more = flat_map-append (λ (group : StoredGroup). group.changes) groups more

pub all_changes-append : (lists more : List (List StoredGroup)) → all_changes (lists ++ more) ≡ all_changes lists ++ all_changes more
all_changes-append lists more = flat_map-append changes_of lists more

-- what the commands of a list make of two images that differ in blocks alone whose last touch by the list is a put
same_byte : (touch : Option Touch) (content : List ℕ) (offset byte other : ℕ) → (is_put touch ≡ false → byte ≡ other) → byte_after_touch touch content offset byte ≡ byte_after_touch touch content offset other
same_byte None content offset byte other same = same refl
same_byte (Some (Put place)) content offset byte other same = refl
same_byte (Some (Clear kind)) content offset byte other same = refl

put_images : (limit : ℕ) (content : List ℕ) (place next : ℕ) (groups : List StoredGroup) → Stand limit content place next groups → (image other : Image)
    → image.blocks ≡ other.blocks → ((block : ℕ) → image.kind block ≡ other.kind block)
    → ((block offset : ℕ) → offset < 4096 → is_put (last_touch block (touched_by_groups place groups)) ≡ false → image.byte (4096 * block + offset) ≡ other.byte (4096 * block + offset))
    → apply_all (changes_of groups) image ≡ apply_all (changes_of groups) other
put_images limit content place next groups stand image other blocks kinds bytes =
    λ i. record { blocks = sizes i; byte = λ p. all_bytes p i; kind = λ block. all_kinds block i }
  where
    sizes : (apply_all (changes_of groups) image).blocks ≡ (apply_all (changes_of groups) other).blocks
    sizes = blocks-apply_all (changes_of groups) image ∙ blocks ∙ sym (blocks-apply_all (changes_of groups) other)

    all_kinds : (block : ℕ) → (apply_all (changes_of groups) image).kind block ≡ (apply_all (changes_of groups) other).kind block
    all_kinds block = groups_kind limit content place next groups stand image block ∙ ap (kind_after (last_touch block (touched_by_groups place groups))) (kinds block)
        ∙ sym (groups_kind limit content place next groups stand other block)

    in_block : (block offset : ℕ) → offset < 4096 → (apply_all (changes_of groups) image).byte (4096 * block + offset) ≡ (apply_all (changes_of groups) other).byte (4096 * block + offset)
    in_block block offset below = groups_byte limit content place next groups stand image block offset below
        ∙ same_byte (last_touch block (touched_by_groups place groups)) content offset _ _ (bytes block offset below)
        ∙ sym (groups_byte limit content place next groups stand other block offset below)

    all_bytes : (p : ℕ) → (apply_all (changes_of groups) image).byte p ≡ (apply_all (changes_of groups) other).byte p
    all_bytes p =
        let at : 4096 * (p / 4096) + p % 4096 ≡ p = omega arith in
        subst (λ (q : ℕ). (apply_all (changes_of groups) image).byte q ≡ (apply_all (changes_of groups) other).byte q) at (in_block (p / 4096) (p % 4096) (omega arith))

not_true : {b : Bool} → b ≡ false → IsTrue b → ⊥
not_true is true_is = cc

-- where the data stay but for those that are to be copied, the commands make the same of map and data
pub copied_images : (count n : ℕ) (old content : List ℕ) (header : Header) (next : ℕ) (front more : List (List StoredGroup)) (states : List Kind)
    → ((place : ℕ) → block_at header.geometry 0 ≤ place → (IsCopyPlace header front place → ⊥) → slice_index content place ≡ slice_index old place)
    → HoldLists (ring count n header.first_area) old header.geometry next front
    → apply_all (all_changes (front ++ more)) (stored_image old header.geometry states) ≡ apply_all (all_changes (front ++ more)) (stored_image content header.geometry states)
copied_images count n old content header next [] more states same holds =
    ap (λ (image : Image). apply_all (all_changes more) image) (sym (image_kept old content header.geometry (λ place above. same place above (λ copy. not_true refl copy.put)) states))
copied_images count zero old content header next (groups ∷ front) more states same holds = absurd holds
copied_images count (suc n) old content header next (groups ∷ front) more states same holds =
    let geometry = header.geometry in
    let changes = all_changes (front ++ more) in
    apply_all-append (changes_of groups) changes (stored_image old geometry states)
    ∙ ap (λ (image : Image). apply_all changes image)
    (put_images geometry.blocks old (area_at geometry header.first_area) next groups holds.0.stand (stored_image old geometry states) (stored_image content geometry states) refl (λ block. refl)
    (λ block offset below none.
    let place : block_at geometry 0 + (4096 * block + offset) ≡ block_at geometry block + offset = omega arith in
    ap (λ (byte : ℕ). if is_data (state_at states ((4096 * block + offset) / 4096)) then byte else 0)
    (sym (same (block_at geometry 0 + (4096 * block + offset)) (omega arith) (λ copy.
    let which : copy.block ≡ block = omega (arith, copy.inside.0, copy.inside.1, place, below) in
    not_true none (subst (λ (b : ℕ). IsTrue (is_put (last_touch b (touched_by_groups (area_at geometry header.first_area) groups)))) which copy.put))))))
    ∙ sym (apply_all-append (changes_of groups) changes (stored_image content geometry states))

-- these areas are the device's, and none of them is that one
abbrev pub AreOthers : Geometry → List ℕ → ℕ → Type 0
AreOthers geometry [] last = Unit {0}
AreOthers geometry (area ∷ areas) last = (area < areas_in geometry) × (area ≢ last) × AreOthers geometry areas last

-- an area after others in the ring is none of them
pub others_behind : (geometry : Geometry) (n k area : ℕ) → area < areas_in geometry → n ≤ k → k < areas_in geometry → AreOthers geometry (ring (areas_in geometry) n area) (behind (areas_in geometry) k area)
others_behind geometry zero k area inside fits few = tt
others_behind geometry (suc n) zero area inside fits few = absurd (omega (arith, fits))
others_behind geometry (suc n) (suc k) area inside fits few = (
  inside,
  behind_apart (areas_in geometry) 0 (suc k) area inside (omega arith) few,
  others_behind geometry n k (next_of (areas_in geometry) area) (next_below (areas_in geometry) area inside) (omega (arith, fits)) (omega (arith, few)),
)

pub others_in_use : (header : Header) → AreOthers header.geometry (areas_before_last header) (last_area header)
others_in_use header = others_behind header.geometry header.before_last header.before_last header.first_area header.first_inside (omega arith) header.few_areas

-- where the bytes of areas stay, but for those of the last one, lists of the others stay
pub lists_kept : (areas : List ℕ) (last : ℕ) (old content : List ℕ) (geometry : Geometry) (next : ℕ) (lists : List (List StoredGroup)) → AreOthers geometry areas last
    → ((place : ℕ) → place < 8192 + 2 * geometry.area → (InRange (area_at geometry last) (area_size geometry) place → ⊥) → slice_index content place ≡ slice_index old place)
    → HoldLists areas old geometry next lists → HoldLists areas content geometry next lists
lists_kept [] last old content geometry next [] others same holds = tt
lists_kept [] last old content geometry next (groups ∷ lists) others same holds = absurd holds
lists_kept (area ∷ areas) last old content geometry next [] others same holds = absurd holds
lists_kept (area ∷ areas) last old content geometry next (groups ∷ lists) others same holds = (
  list_kept (area_of geometry area) next groups old content (λ place here. same place (omega (arith, area_high geometry area others.0, here.1)) (apart geometry area last place others.1 here)) holds.0,
  lists_kept areas last old content geometry (next_behind next groups) lists others.2 same holds.1,
)

-- lists with one more after them
pub with_last : (areas : List ℕ) (last : ℕ) (content : List ℕ) (geometry : Geometry) (next : ℕ) (front : List (List StoredGroup)) (groups : List StoredGroup)
    → HoldLists areas content geometry next front → IsList (area_of geometry last) (behind_lists next front) groups content → HoldLists (areas ++ last ∷ []) content geometry next (front ++ groups ∷ [])
with_last [] last content geometry next [] groups holds list = (list, tt)
with_last [] last content geometry next (more ∷ front) groups holds list = absurd holds
with_last (area ∷ areas) last content geometry next [] groups holds list = absurd holds
with_last (area ∷ areas) last content geometry next (more ∷ front) groups holds list = (
  holds.0,
  with_last areas last content geometry (next_behind next more) front groups holds.1 list,
)

-- areas that are held hold their lists
pub held_lists : (sides : List ℕ) (geometry : Geometry) (next : ℕ) (lists : List (List StoredGroup)) (areas : List AreaState) (state : State)
    → AreHeld sides geometry next lists areas state → HoldLists sides state.seen geometry next lists
held_lists [] geometry next [] [] state held = tt
held_lists [] geometry next [] (area ∷ areas) state held = absurd held
held_lists [] geometry next (groups ∷ lists) areas state held = absurd held
held_lists (side ∷ sides) geometry next [] areas state held = absurd held
held_lists (side ∷ sides) geometry next (groups ∷ lists) [] state held = absurd held
held_lists (side ∷ sides) geometry next (groups ∷ lists) (area ∷ areas) state held = (
  moved_list area (area_of geometry side) next groups state.seen held.0.from held.0.bytes held.0.blocks held.1.list,
  held_lists sides geometry (next_behind next groups) lists areas state held.2,
)

-- one area that is held still is where its bytes stay and nothing of it is unsynced
pub one_kept : (area : AreaState) (geometry : Geometry) (side : ℕ) (next : ℕ) (groups : List StoredGroup) (before after : State) → IsPlaced area geometry side
    → ((place : ℕ) → InRange (area_at geometry side) (area_size geometry) place → slice_index after.seen place ≡ slice_index before.seen place)
    → ((place : ℕ) → InRange (area_at geometry side) (area_size geometry) place → after.unsynced place → ⊥)
    → IsHeld area next groups before → IsHeld area next groups after
one_kept area geometry side next groups before after placed same synced held =
    let here : (place : ℕ) → InRange area.from area.bytes place → InRange (area_at geometry side) (area_size geometry) place =
    λ place within. (omega (arith, within.0, placed.from), omega (arith, within.1, placed.from, placed.bytes)) in
    record {
      list = list_kept area next groups before.seen after.seen (λ place within. same place (here place within)) held.list;
      gate = held.gate;
      next = held.next;
      touched = held.touched;
      synced = λ place within. synced place (here place within);
    }

-- and so is one whose list is known
pub one_listed : (area : AreaState) (geometry : Geometry) (side : ℕ) (next : ℕ) (groups : List StoredGroup) (before after : State) → IsPlaced area geometry side
    → ((place : ℕ) → InRange (area_at geometry side) (area_size geometry) place → slice_index after.seen place ≡ slice_index before.seen place)
    → ((place : ℕ) → InRange (area_at geometry side) (area_size geometry) place → after.unsynced place → ⊥)
    → IsListed area next groups before → IsListed area next groups after
one_listed area geometry side next groups before after placed same synced listed =
    let here : (place : ℕ) → InRange area.from area.bytes place → InRange (area_at geometry side) (area_size geometry) place =
    λ place within. (omega (arith, within.0, placed.from), omega (arith, within.1, placed.from, placed.bytes)) in
    record {
      list = list_kept area next groups before.seen after.seen (λ place within. same place (here place within)) listed.list;
      next = listed.next;
      touched = listed.touched;
      synced = λ place within. synced place (here place within);
    }

-- and so are areas, but for the last one
pub held_kept : (sides : List ℕ) (last : ℕ) (geometry : Geometry) (next : ℕ) (lists : List (List StoredGroup)) (areas : List AreaState) (before after : State) → AreOthers geometry sides last
    → ((place : ℕ) → place < 8192 + 2 * geometry.area → (InRange (area_at geometry last) (area_size geometry) place → ⊥) → slice_index after.seen place ≡ slice_index before.seen place)
    → ((place : ℕ) → place < 8192 + 2 * geometry.area → after.unsynced place → ⊥)
    → AreHeld sides geometry next lists areas before → AreHeld sides geometry next lists areas after
held_kept [] last geometry next [] [] before after others same synced held = tt
held_kept [] last geometry next [] (area ∷ areas) before after others same synced held = absurd held
held_kept [] last geometry next (groups ∷ lists) areas before after others same synced held = absurd held
held_kept (side ∷ sides) last geometry next [] areas before after others same synced held = absurd held
held_kept (side ∷ sides) last geometry next (groups ∷ lists) [] before after others same synced held = absurd held
held_kept (side ∷ sides) last geometry next (groups ∷ lists) (area ∷ areas) before after others same synced held = (
  held.0,
  one_listed area geometry side next groups before after held.0
      (λ place here. same place (omega (arith, area_high geometry side others.0, here.1)) (apart geometry side last place others.1 here))
      (λ place here. synced place (omega (arith, area_high geometry side others.0, here.1))) held.1,
  held_kept sides last geometry (next_behind next groups) lists areas before after others.2 same synced held.2,
)

-- the last area in use of what a content stands for
abbrev pub last_of : {content : List ℕ} {image : Image} {number : ℕ} → StandsFor content image number → AreaState
last_of stands = area_of stands.header.geometry (last_area stands.header)

abbrev pub fronts_of : {content : List ℕ} {image : Image} {number : ℕ} → StandsFor content image number → List ℕ
fronts_of stands = areas_before_last stands.header

-- the last area has another list, and all else stays but for data that are to be copied
module _ (old content : List ℕ) (image other : Image) (number count : ℕ) (stands : StandsFor old image number) (front : List (List StoredGroup)) (groups : List StoredGroup)
    (size : length content ≡ length old)
    (same : (place : ℕ) → (InRange (last_of stands).from (last_of stands).bytes place → ⊥) → (IsCopyPlace stands.header front place → ⊥) → slice_index content place ≡ slice_index old place)
    (holds : HoldLists (fronts_of stands) old stands.header.geometry (next_number stands.header.base) front) where
  pub low_same : (place : ℕ) → place < 8192 + 2 * stands.header.geometry.area → (InRange (last_of stands).from (last_of stands).bytes place → ⊥) → slice_index content place ≡ slice_index old place
  low_same place below outside = same place outside (λ copy. omega (arith, below, copy.inside.0))

  pub map_same : (place : ℕ) → 8192 + 2 * stands.header.geometry.area ≤ place → place < block_at stands.header.geometry 0 → slice_index content place ≡ slice_index old place
  map_same place above below = same place (λ within. omega (arith, above, last_high stands.header, within.1))
      (λ copy. omega (arith, below, copy.inside.0))

  abbrev pub stands_with : IsList (last_of stands) (behind_lists (next_number stands.header.base) front) groups content
      → count ≡ stands.header.base + length (all_changes (front ++ groups ∷ []))
      → other ≡ apply_all (all_changes (front ++ groups ∷ [])) (stored_image old stands.header.geometry stands.states)
      → StandsFor content other count
  stands_with list count_is shows =
      let low = area_low stands.header.geometry (last_area stands.header) in
      record {
        header = stands.header;
        slot = stands.slot;
        states = stands.states;
        lists = front ++ groups ∷ [];
        in_force = header_kept old content stands.header stands.slot size (λ place below. low_same place (omega arith) (λ within. omega (arith, below, low, within.0))) stands.in_force;
        map = map_kept old content stands.states stands.header.geometry stands.header.map_slot map_same stands.map;
        held = subst (λ (areas : List ℕ). HoldLists areas content stands.header.geometry (next_number stands.header.base) (front ++ groups ∷ []))
            (sym (ring-last (areas_in stands.header.geometry) stands.header.before_last stands.header.first_area))
            (with_last (fronts_of stands) (last_area stands.header) content stands.header.geometry (next_number stands.header.base) front groups
            (lists_kept (fronts_of stands) (last_area stands.header) old content stands.header.geometry (next_number stands.header.base) front
            (others_in_use stands.header) low_same holds)
            list);
        count = count_is;
        shows = shows ∙ copied_images (areas_in stands.header.geometry) stands.header.before_last old content stands.header (next_number stands.header.base) front (groups ∷ []) stands.states
            (λ place above none. same place (λ within. omega (arith, above, last_high stands.header, within.1)) none) holds;
      }
