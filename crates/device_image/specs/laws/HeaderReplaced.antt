-- What a device stands for once the header has changed: at the beginning of a checkpoint, and at its end.
use Rattle.std.proofs.Common.{◌≡◌, ⊎_elim, ℕ, suc, ◌+◌, ◌*◌, ◌/◌, ◌%◌, ◌≤◌, ◌<◌, if◌then◌else◌, List, [], ◌∷◌, ◌++◌, length, slice_index, Option, Some, None, refl, sym, ◌∙◌, ap, subst, arith, length-append}
use Rattle.std.proofs.lemmas.Bool.{cases_lt}
use Rattle.std.proofs.lemmas.List.{append-nil, get_or_past}
use Rattle.alloc_map.specs.Codes.{state_at}
use Rattle.disk_model.specs.Disk.{InRange}
use Rattle.header_slots.specs.Slots.{HoldsHeader}
use Rattle.header_slots.specs.declared.header.Header.{Header}
use Rattle.image_model.specs.Geometry.{map_bytes_of}
use Rattle.image_model.specs.Change.{Change}
use Rattle.image_model.specs.Image.{Image, apply_all}
use Rattle.image_model.specs.Side.{other_of}
use Rattle.image_model.specs.declared.command.Kind.{Kind}
use Rattle.image_model.specs.declared.command.Kind.TheVariants.{Data, Zero, Hole}
use Rattle.image_model.specs.declared.geometry.Geometry.{Geometry}
use Rattle.image_model.specs.declared.side.Side.{Side}
use Rattle.journal_format.specs.GroupList.{IsOpen, Stand, changes_of, next_behind, number_behind, size_of, sizes_of}
use Rattle.journal_format.specs.Spelling.{StoredGroup}
use Rattle.journal_format.specs.Touches.{byte_after_touch, kind_after, last_touch, touched_by_groups}
use Rattle.journal_format.specs.declared.touch.Touch.{Touch}
use Rattle.journal_format.specs.declared.touch.Touch.TheVariants.{Put, Clear}
use Rattle.journal_format.specs.laws.LastTouches.{groups_kind, groups_byte}
use Rattle.regions.specs.Layout.{area_at, area_size, areas_in, behind, block_at, map_at, next_of, ring}
use Rattle.regions.specs.Map.{HoldsMap}
use Rattle.regions.specs.laws.Ring.{area_low, ring-last}
use Rattle.device_image.specs.inner.Free.{IsFree}
use Rattle.device_image.specs.Keeper.{AreStatesAfter}
use Rattle.device_image.specs.Stands.{StandsFor, HoldLists, all_changes, areas_before_last, in_use, is_data, next_number, stored_image}
use Rattle.device_image.specs.laws.Frame.{all_changes-append, apply_all-append, blocks-apply_all, image_kept, map_low, with_last}
use Rattle.device_image.specs.laws.Free.{AreSame, lists_stay, lists_still, map_stays, shows_still}
use Rattle.device_image.specs.laws.Headers.{begun, ended}
use Rattle.device_image.specs.laws.Touched.{IsSoundTouch, groups_sound}

-- after groups that follow the number `last` the next number is the one that follows the last of them
pub record Follows (last next : ℕ) (groups : List StoredGroup) : Type 0 where
  pub following : next_behind next groups ≡ next_number (last + length (changes_of groups))
  pub fits : last + length (changes_of groups) < 18446744073709551616

pub follows : (image : ℕ) (content : List ℕ) (place next last : ℕ) (groups : List StoredGroup) → last < 18446744073709551616 → next ≡ next_number last → Stand image content place next groups → Follows last next groups
follows image content place next last [] fits is stand = record { following = omega (arith, is); fits = omega (arith, fits) }
follows image content place next last (group ∷ groups) fits is stand =
    let sound = stand.2 in
    let all : length (changes_of (group ∷ groups)) ≡ length group.changes + length (changes_of groups) = length-append group.changes (changes_of groups) in
    let rest = follows image content (place + size_of group) (number_behind group) (last + length group.changes) groups
    (omega (arith, is, fits, sound.left, sound.numbers)) (omega (arith, is, fits, sound.left, sound.first, sound.numbers)) stand.3 in
    let same : last + length group.changes + length (changes_of groups) ≡ last + length (changes_of (group ∷ groups)) = omega (arith, all) in
    record {
      following = rest.following ∙ ap next_number same;
      fits = omega (arith, rest.fits, same);
    }

-- a map stays where its slot's bytes stay
pub slot_kept : (old content : List ℕ) (states : List Kind) (geometry : Geometry) (slot : Side)
    → ((place : ℕ) → InRange (map_at geometry slot) (map_bytes_of geometry.blocks) place → slice_index content place ≡ slice_index old place)
    → HoldsMap old (map_at geometry slot) geometry.blocks states → HoldsMap content (map_at geometry slot) geometry.blocks states
slot_kept old content states geometry slot same map = record {
  bytes = map.bytes;
  slot = record {
    size = map.slot.size;
    same = λ k below. map.slot.same k below ∙ sym (same (map_at geometry slot + k) (omega arith, omega (arith, below)));
  };
  count = map.count;
  map = map.map;
}

-- the changes of lists do not change where an empty one comes after them
pub changes-empty : (lists : List (List StoredGroup)) → all_changes (lists ++ [] ∷ []) ≡ all_changes lists
changes-empty lists = all_changes-append lists ([] ∷ []) ∙ append-nil (all_changes lists)

-- a checkpoint begins: an empty area comes after those in use
module _ (old content : List ℕ) (image : Image) (number : ℕ) (stands : StandsFor old image number) (front : List (List StoredGroup)) (groups : List StoredGroup)
    (are : stands.lists ≡ front ++ groups ∷ [])
    (same : (place : ℕ) → 8192 ≤ place → (IsFree stands.header front place → ⊥) → slice_index content place ≡ slice_index old place)
    (holds : HoldLists (areas_before_last stands.header) old stands.header.geometry (next_number stands.header.base) front)
    (room : suc stands.header.before_last < areas_in stands.header.geometry) (some : 0 < area_size stands.header.geometry)
    (closed : IsOpen content (area_at stands.header.geometry (behind (areas_in stands.header.geometry) (suc stands.header.before_last) stands.header.first_area)) → ⊥) where
  pub begun_lists : HoldLists (in_use (begun stands.header room)) content stands.header.geometry (next_number stands.header.base) (stands.lists ++ [] ∷ [])
  begun_lists =
      let header = stands.header in
      let last = behind (areas_in header.geometry) (suc header.before_last) header.first_area in
      subst (λ (areas : List ℕ). HoldLists areas content header.geometry (next_number header.base) (stands.lists ++ [] ∷ [])) (sym (ring-last (areas_in header.geometry) (suc header.before_last) header.first_area))
      (with_last (in_use header) last content header.geometry (next_number header.base) stands.lists [] (lists_still old content image number stands front groups are same holds)
      (record { stand = closed; inside = some }))

  abbrev pub begins_turn : (slot : Side) → HoldsHeader content (length content) (begun stands.header room) slot → StandsFor content image number
  begins_turn slot in_force = record {
    header = begun stands.header room;
    slot = slot;
    states = stands.states;
    lists = stands.lists ++ [] ∷ [];
    in_force = in_force;
    map = map_stays old content stands.header front same stands.states stands.map;
    held = begun_lists;
    count = stands.count ∙ ap (λ (changes : List Change). stands.header.base + length changes) (sym (changes-empty stands.lists));
    shows = shows_still old content image number stands front groups are same holds
        ∙ ap (λ (changes : List Change). apply_all changes (stored_image content stands.header.geometry stands.states)) (sym (changes-empty stands.lists));
  }

-- the list of an area whose puts are copied, and the map after it
module _ (old : List ℕ) (geometry : Geometry) (place next : ℕ) (groups : List StoredGroup) (stand : Stand geometry.blocks old place next groups) (before after : List Kind)
    (count : length before ≡ geometry.blocks) (states : AreStatesAfter (touched_by_groups place groups) before after)
    (copied : (block from : ℕ) → block < geometry.blocks → last_touch block (touched_by_groups place groups) ≡ Some (Put from) → (k : ℕ) → k < 4096
    → slice_index old (block_at geometry block + k) ≡ slice_index old (from + k)) where
  sound : (block : ℕ) → IsSoundTouch geometry.blocks place (place + sizes_of groups) block (last_touch block (touched_by_groups place groups))
  sound block = groups_sound geometry.blocks place (place + sizes_of groups) block old place next groups stand (omega arith) (omega arith)

  past : (block : ℕ) (touch : Option Touch) → geometry.blocks ≤ block → IsSoundTouch geometry.blocks place (place + sizes_of groups) block touch → (kind : Kind) → kind_after touch kind ≡ kind
  past block None high is kind = refl
  past block (Some (Put from)) high is kind = absurd (omega (arith, high, is.0))
  past block (Some (Clear cleared)) high is kind = absurd (omega (arith, high, is.0))

  pub state_after : (block : ℕ) → kind_after (last_touch block (touched_by_groups place groups)) (state_at before block) ≡ state_at after block
  state_after block = ⊎_elim
      (λ below. sym (states.each block below))
      (λ high. past block (last_touch block (touched_by_groups place groups)) (omega (arith, high, count)) (sound block) (state_at before block)
      ∙ get_or_past before block Hole high ∙ sym (get_or_past after block Hole (omega (arith, high, states.count))))
      (cases_lt block (length before))

  byte_copied : (block offset : ℕ) → offset < 4096 → (touch : Option Touch) → last_touch block (touched_by_groups place groups) ≡ touch → IsSoundTouch geometry.blocks place (place + sizes_of groups) block touch
      → byte_after_touch touch old offset (if is_data (state_at before block) then slice_index old (block_at geometry block + offset) else 0)
      ≡ (if is_data (kind_after touch (state_at before block)) then slice_index old (block_at geometry block + offset) else 0)
  byte_copied block offset small None is fits = refl
  byte_copied block offset small (Some (Put from)) is fits = sym (copied block from fits.0 is offset small)
  byte_copied block offset small (Some (Clear Data)) is fits = absurd fits.1
  byte_copied block offset small (Some (Clear Zero)) is fits = refl
  byte_copied block offset small (Some (Clear Hole)) is fits = refl

  in_block : (block offset : ℕ) → offset < 4096 → (apply_all (changes_of groups) (stored_image old geometry before)).byte (4096 * block + offset) ≡ (stored_image old geometry after).byte (4096 * block + offset)
  in_block block offset small =
      let which : (4096 * block + offset) / 4096 ≡ block = omega (arith, small) in
      let at : block_at geometry 0 + (4096 * block + offset) ≡ block_at geometry block + offset = omega arith in
      let byte_of : List Kind → ℕ → ℕ → ℕ = λ states b p. if is_data (state_at states b) then slice_index old p else 0 in
      groups_byte geometry.blocks old place next groups stand (stored_image old geometry before) block offset small
      ∙ ap (λ (b : ℕ). byte_after_touch (last_touch block (touched_by_groups place groups)) old offset (byte_of before b (block_at geometry 0 + (4096 * block + offset)))) which
      ∙ ap (λ (p : ℕ). byte_after_touch (last_touch block (touched_by_groups place groups)) old offset (byte_of before block p)) at
      ∙ byte_copied block offset small (last_touch block (touched_by_groups place groups)) refl (sound block)
      ∙ ap (λ (kind : Kind). if is_data kind then slice_index old (block_at geometry block + offset) else 0) (state_after block)
      ∙ sym (ap (byte_of after block) at)
      ∙ sym (ap (λ (b : ℕ). byte_of after b (block_at geometry 0 + (4096 * block + offset))) which)

  all_bytes : (p : ℕ) → (apply_all (changes_of groups) (stored_image old geometry before)).byte p ≡ (stored_image old geometry after).byte p
  all_bytes p =
      let at : 4096 * (p / 4096) + p % 4096 ≡ p = omega arith in
      subst (λ (q : ℕ). (apply_all (changes_of groups) (stored_image old geometry before)).byte q ≡ (stored_image old geometry after).byte q) at (in_block (p / 4096) (p % 4096) (omega arith))

  -- map and data hold what the list made of them
  pub taken_over : apply_all (changes_of groups) (stored_image old geometry before) ≡ stored_image old geometry after
  taken_over =
      let sizes = blocks-apply_all (changes_of groups) (stored_image old geometry before) in
      let kinds = λ (block : ℕ). groups_kind geometry.blocks old place next groups stand (stored_image old geometry before) block ∙ state_after block in
      λ i. record { blocks = sizes i; byte = λ p. all_bytes p i; kind = λ block. kinds block i }

-- areas stay where all after the header slots does
pub areas_above : (areas : List ℕ) (geometry : Geometry) (old content : List ℕ) → ((place : ℕ) → 8192 ≤ place → slice_index content place ≡ slice_index old place) → AreSame areas geometry old content
areas_above [] geometry old content same = tt
areas_above (area ∷ areas) geometry old content same = (λ place here. same place (omega (arith, here.0, area_low geometry area)), areas_above areas geometry old content same)

-- a checkpoint ends: the first area is no longer in use, over what map and data then hold
module _ (old content : List ℕ) (header : Header) (before after : List Kind) (rest : ℕ) (is : header.before_last ≡ suc rest) (first : List StoredGroup) (others : List (List StoredGroup)) (image : Image) (number : ℕ)
    (fits : header.base < 18446744073709551616) (blocks : length before ≡ header.geometry.blocks)
    (map : HoldsMap old (map_at header.geometry (other_of header.map_slot)) header.geometry.blocks after)
    (states : AreStatesAfter (touched_by_groups (area_at header.geometry header.first_area) first) before after)
    (copied : (block from : ℕ) → block < header.geometry.blocks → last_touch block (touched_by_groups (area_at header.geometry header.first_area) first) ≡ Some (Put from) → (k : ℕ) → k < 4096
    → slice_index old (block_at header.geometry block + k) ≡ slice_index old (from + k))
    (lists : HoldLists (in_use header) old header.geometry (next_number header.base) (first ∷ others))
    (count : number ≡ header.base + length (all_changes (first ∷ others)))
    (shows : image ≡ apply_all (all_changes (first ∷ others)) (stored_image old header.geometry before))
    (same : (place : ℕ) → 8192 ≤ place → slice_index content place ≡ slice_index old place) where
  abbrev pub base_after : ℕ
  base_after = header.base + length (changes_of first)

  pub number_after : next_behind (next_number header.base) first ≡ next_number base_after
  number_after = (follows header.geometry.blocks old (area_at header.geometry header.first_area) (next_number header.base) header.base first fits refl lists.0.stand).following

  pub counted : number ≡ base_after + length (all_changes others)
  counted = omega (arith, count, length-append (changes_of first) (all_changes others))

  pub shown : image ≡ apply_all (all_changes others) (stored_image content header.geometry after)
  shown =
      shows
      ∙ apply_all-append (changes_of first) (all_changes others) (stored_image old header.geometry before)
      ∙ ap (apply_all (all_changes others))
      (taken_over old header.geometry (area_at header.geometry header.first_area) (next_number header.base) first lists.0.stand before after blocks states copied
      ∙ sym (image_kept old content header.geometry (λ place above. same place (omega (arith, above))) after))

  pub others_held : HoldLists (in_use (ended header rest is base_after)) content header.geometry (next_number base_after) others
  others_held =
      let areas = ring (areas_in header.geometry) (suc rest) (next_of (areas_in header.geometry) header.first_area) in
      let here = subst (λ (n : ℕ). HoldLists (ring (areas_in header.geometry) n (next_of (areas_in header.geometry) header.first_area)) old header.geometry (next_behind (next_number header.base) first) others) is lists.1 in
      subst (λ (next : ℕ). HoldLists areas content header.geometry next others) number_after
      (lists_stay areas old content header.geometry (next_behind (next_number header.base) first) others (areas_above areas header.geometry old content same) here)

  abbrev pub ends_turn : (slot : Side) → HoldsHeader content (length content) (ended header rest is base_after) slot → StandsFor content image number
  ends_turn slot in_force = record {
    header = ended header rest is base_after;
    slot = slot;
    states = after;
    lists = others;
    in_force = in_force;
    map = slot_kept old content after header.geometry (other_of header.map_slot) (λ place within. same place (omega (arith, within.0, map_low header.geometry (other_of header.map_slot)))) map;
    held = others_held;
    count = counted;
    shows = shown;
  }
