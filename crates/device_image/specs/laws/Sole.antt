-- A content stands for one image with one number, and for none where an opening refuses it.
use Rattle.std.proofs.Common.{◌≡◌, ℕ, ◌+◌, ◌<◌, ◌^◌, ⊎_elim, List, [], ◌∷◌, length, refl, sym, ◌∙◌, subst, arith}
use Rattle.std.proofs.lemmas.List.{ext_get_or}
use Rattle.alloc_map.specs.Map.{IsBadMap, IsMapOf}
use Rattle.alloc_map.specs.laws.Spelling.{one_map, never_bad}
use Rattle.header_slots.specs.Header.{SpellsAt}
use Rattle.header_slots.specs.Slots.{HoldsHeader, slot_at}
use Rattle.header_slots.specs.declared.header.Header.{Header}
use Rattle.image_model.specs.declared.side.Side.{Side}
use Rattle.header_slots.specs.laws.Sole.{one_slot, one_header}
use Rattle.image_model.specs.Geometry.{map_bytes_of}
use Rattle.image_model.specs.Image.{Image, apply_all}
use Rattle.image_model.specs.declared.command.Kind.{Kind}
use Rattle.image_model.specs.declared.geometry.Geometry.{Geometry}
use Rattle.journal_format.specs.GroupList.{next_behind}
use Rattle.journal_format.specs.Spelling.{StoredGroup}
use Rattle.journal_format.specs.laws.OneList.{one_list, damaged_none}
use Rattle.regions.specs.Layout.{area_at, map_at}
use Rattle.regions.specs.Map.{AreSlot, HoldsMap, HoldsBadMap}
use Rattle.device_image.specs.Damage.{HasBadMap, HasDamagedGroup, IsAreaDamaged, IsOneDamaged}
use Rattle.device_image.specs.Stands.{StandsFor, HoldLists, all_changes, area_of, in_use, next_number, stored_image}

few_blocks : (geometry : Geometry) → geometry.blocks < 2 ^ 64
few_blocks geometry = omega (arith, geometry.not_too_many)

one_slot_bytes : (content : List ℕ) (place blocks : ℕ) (bytes others : List ℕ) → AreSlot content place blocks bytes → AreSlot content place blocks others → bytes ≡ others
one_slot_bytes content place blocks bytes others slot other =
    ext_get_or 0 bytes others (slot.size ∙ sym other.size) (λ k below.
    let inside : k < map_bytes_of blocks = omega (arith, below, slot.size) in
    slot.same k inside ∙ sym (other.same k inside))

pub one_states : (content : List ℕ) (place blocks : ℕ) (states others : List Kind) → HoldsMap content place blocks states → HoldsMap content place blocks others → states ≡ others
one_states content place blocks states others map other =
    one_map map.bytes states others (map.count ∙ sym other.count) map.map
    (subst (λ (bytes : List ℕ). IsMapOf bytes others) (one_slot_bytes content place blocks other.bytes map.bytes other.slot map.slot) other.map)

-- areas hold one list each
one_lists : (areas : List ℕ) (content : List ℕ) (geometry : Geometry) (next : ℕ) (lists others : List (List StoredGroup))
    → HoldLists areas content geometry next lists → HoldLists areas content geometry next others → lists ≡ others
one_lists [] content geometry next [] [] holds also = refl
one_lists [] content geometry next [] (groups ∷ others) holds also = absurd also
one_lists [] content geometry next (groups ∷ lists) others holds also = absurd holds
one_lists (area ∷ areas) content geometry next [] others holds also = absurd holds
one_lists (area ∷ areas) content geometry next (groups ∷ lists) [] holds also = absurd also
one_lists (area ∷ areas) content geometry next (groups ∷ lists) (more ∷ others) holds also =
    let here = one_list geometry.blocks (few_blocks geometry) content (area_at geometry area) next groups more holds.0.stand also.0.stand in
    let rest = one_lists areas content geometry (next_behind next groups) lists others holds.1
    (subst (λ (g : List StoredGroup). HoldLists areas content geometry (next_behind next g) others) (sym here) also.1) in
    λ i. here i ∷ rest i

-- and none of them is damaged
lists_sound : (areas : List ℕ) (content : List ℕ) (geometry : Geometry) (next : ℕ) (lists : List (List StoredGroup))
    → HoldLists areas content geometry next lists → IsOneDamaged areas content geometry next → ⊥
lists_sound [] content geometry next lists holds damaged = damaged
lists_sound (area ∷ areas) content geometry next [] holds damaged = holds
lists_sound (area ∷ areas) content geometry next (groups ∷ lists) holds damaged = ⊎_elim
    (λ here. damaged_none (area_of geometry area) next content groups (few_blocks geometry) here holds.0)
    (λ behind.
    let same = one_list geometry.blocks (few_blocks geometry) content (area_at geometry area) next behind.0 groups behind.1.stand holds.0.stand in
    lists_sound areas content geometry (next_behind next groups) lists holds.1
    (subst (λ (g : List StoredGroup). IsOneDamaged areas content geometry (next_behind next g)) same behind.2))
    damaged

-- two headers in force are one
pub same_header : (content : List ℕ) (size : ℕ) (header other : Header) (slot side : Side) → HoldsHeader content size header slot → HoldsHeader content size other side → header ≡ other
same_header content size header other slot side holds also =
    one_header content (slot_at slot + 1) header other holds.spelled
    (subst (λ (s : Side). SpellsAt content (slot_at s + 1) other) (sym (one_slot content slot side holds.in_force also.in_force)) also.spelled)

module _ (content : List ℕ) (image other : Image) (number next : ℕ) (stands : StandsFor content image number) (also : StandsFor content other next) where
  header_is : stands.header ≡ also.header
  header_is = same_header content (length content) stands.header also.header stands.slot also.slot stands.in_force also.in_force

  states_are : stands.states ≡ also.states
  states_are = one_states content _ _ stands.states also.states stands.map
      (subst (λ (h : Header). HoldsMap content (map_at h.geometry h.map_slot) h.geometry.blocks also.states) (sym header_is) also.map)

  lists_are : stands.lists ≡ also.lists
  lists_are = one_lists (in_use stands.header) content stands.header.geometry _ stands.lists also.lists stands.held
      (subst (λ (h : Header). HoldLists (in_use h) content h.geometry (next_number h.base) also.lists) (sym header_is) also.held)

  pub one_image : image ≡ other
  one_image =
      let same : apply_all (all_changes stands.lists) (stored_image content stands.header.geometry stands.states) ≡ apply_all (all_changes also.lists) (stored_image content also.header.geometry also.states) =
      λ i. apply_all (all_changes (lists_are i)) (stored_image content (header_is i).geometry (states_are i)) in
      stands.shows ∙ same ∙ sym also.shows

  pub one_number : number ≡ next
  one_number =
      let same : stands.header.base + length (all_changes stands.lists) ≡ also.header.base + length (all_changes also.lists) =
      λ i. (header_is i).base + length (all_changes (lists_are i)) in
      stands.count ∙ same ∙ sym also.count

module _ (content : List ℕ) (image : Image) (number : ℕ) (stands : StandsFor content image number) where
  -- where it stands for an image nothing is bad of it
  pub map_sound : HasBadMap content → ⊥
  map_sound bad =
      let header = same_header content (length content) bad.header stands.header bad.slot stands.slot bad.in_force stands.in_force in
      let map = subst (λ (h : Header). HoldsBadMap content (map_at h.geometry h.map_slot) h.geometry.blocks) header bad.map in
      let bytes = one_slot_bytes content _ _ map.bytes stands.map.bytes map.slot stands.map.slot in
      never_bad stands.map.bytes stands.states stands.map.map
      (subst (λ (blocks : ℕ). IsBadMap blocks stands.map.bytes) (sym stands.map.count) (subst (λ (list : List ℕ). IsBadMap stands.header.geometry.blocks list) bytes map.bad))

  pub groups_sound : HasDamagedGroup content → ⊥
  groups_sound bad =
      let header = same_header content (length content) bad.header stands.header bad.slot stands.slot bad.in_force stands.in_force in
      lists_sound (in_use stands.header) content stands.header.geometry (next_number stands.header.base) stands.lists stands.held
      (subst (λ (h : Header). IsAreaDamaged content h) header bad.damaged)
