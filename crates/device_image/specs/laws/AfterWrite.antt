-- What a keeper holds once a call has written, and what its commands made of the base.
use Rattle.std.proofs.Common.{◌≡◌, ℕ, ◌+◌, ◌*◌, ◌/◌, ◌<◌, zero, suc, Bool, true, false, ◌||◌, if◌then◌else◌, Option, Some, None, List, [], ◌∷◌, ◌++◌, length, map, slice_index, refl, sym, ◌∙◌, ap, subst, arith}
use Rattle.std.specs.Option.{is_some}
use Rattle.std.specs.List.{list_any}
use Rattle.alloc_map.specs.Codes.{state_at}
use Rattle.disk_model.specs.Disk.{State}
use Rattle.header_slots.specs.declared.header.Header.{Header}
use Rattle.image_model.specs.Change.{Change}
use Rattle.image_model.specs.Dirty.{touches}
use Rattle.image_model.specs.Image.{Image, apply_all}
use Rattle.image_model.specs.declared.command.Kind.{Kind}
use Rattle.image_model.specs.declared.geometry.Geometry.{Geometry}
use Rattle.journal_format.specs.GroupList.{IsList, Stand, changes_of}
use Rattle.journal_format.specs.Spelling.{StoredGroup}
use Rattle.journal_format.specs.Touches.{byte_after_touch, kind_after, last_touch, touched_by_groups}
use Rattle.journal_format.specs.declared.touch.Touch.{Touch}
use Rattle.journal_format.specs.declared.touch.Touch.TheVariants.{Put, Clear}
use Rattle.journal_format.specs.laws.LastTouches.{groups_byte, groups_kind}
use Rattle.regions.specs.Layout.{area_at, areas_in, block_at, ring}
use Rattle.device_image.specs.Holds.{Holds, IsBase, is_written, joined}
use Rattle.device_image.specs.Keeper.{KeeperState, is_put}
use Rattle.device_image.specs.Keeps.{Keeps, touched_first}
use Rattle.device_image.specs.Stands.{HoldLists, all_changes, area_of, areas_before_last, is_data, stored_image}
use Rattle.device_image.specs.laws.Frame.{blocks-apply_all}
use Rattle.device_image.specs.laws.Kept.{held}
use Rattle.device_image.specs.laws.Lists.{KeepsLists}
use Rattle.device_image.specs.laws.Written.{groups_touched, never_written, untouched_unwritten, written_append}

or_left : (a b : Bool) → (a || b) ≡ false → a ≡ false
or_left true b none = none
or_left false b none = refl

-- the first of several areas in use
pub first_list : (count n side : ℕ) (geometry : Geometry) (content : List ℕ) (next : ℕ) (groups : List StoredGroup) (front : List (List StoredGroup))
    → HoldLists (ring count n side) content geometry next (groups ∷ front) → IsList (area_of geometry side) next groups content
first_list count zero side geometry content next groups front held = absurd held
first_list count (suc n) side geometry content next groups front held = held.0

-- a block that no command of the areas in front writes isn't copied
unwritten_first : (header : Header) (front : List (List StoredGroup)) (content : List ℕ) (next block : ℕ) → HoldLists (areas_before_last header) content header.geometry next front
    → is_written block (all_changes front) ≡ false → is_put (last_touch block (touched_first header front)) ≡ false
unwritten_first header [] content next block holds none = refl
unwritten_first header (groups ∷ front) content next block holds none =
    (groups_touched header.geometry.blocks block content (area_at header.geometry header.first_area) next groups (first_list (areas_in header.geometry) header.before_last header.first_area header.geometry content next groups front holds).stand).put
    ∙ never_written block (changes_of groups) (or_left _ _ (sym (written_append block (changes_of groups) (all_changes front)) ∙ none))

pub unwritten_put : {D : Type 0} (keeper : KeeperState D) (state : State) (image : Image) (number : ℕ) (keeps : Keeps keeper state image number) (block : ℕ)
    → is_written block (all_changes keeps.areas.front) ≡ false → is_put (last_touch block (touched_first keeps.stands.header keeps.areas.front)) ≡ false
unwritten_put keeper state image number keeps block none =
    unwritten_first keeps.stands.header keeps.areas.front state.seen _ block (held keeper state image number keeps) none

-- the image that map and data hold is the base, whatever is to be copied
pub base_of : (base : Image) (content : List ℕ) (geometry : Geometry) (states : List Kind) (commands : List Change) → base ≡ stored_image content geometry states → IsBase base content geometry states commands
base_of base content geometry states commands is = record {
  blocks = ap (λ (i : Image). i.blocks) is;
  kinds = λ block. ap (λ (i : Image). i.kind block) is;
  bytes = λ block offset small none. ap (λ (i : Image). i.byte (4096 * block + offset)) is;
}

-- the commands of lists, area by area and one after another
pub joined_lists : (lists : List (List StoredGroup)) → joined (map changes_of lists) ≡ all_changes lists
joined_lists [] = refl
joined_lists (groups ∷ lists) = ap (λ (more : List Change). changes_of groups ++ more) (joined_lists lists)

-- the same image, by lists that are told
pub holds_lists : {D : Type 0} (now : KeeperState D) (after : State) (image : Image) (number : ℕ) (front : List (List StoredGroup)) (groups : List StoredGroup) → KeepsLists now after image number front groups
    → (base : Image) (fronts : List (List Change)) (last : List Change) → image ≡ apply_all last (apply_all (joined fronts) base) → number ≡ now.base + length (joined fronts) + length last
    → map changes_of front ≡ fronts → changes_of groups ≡ last → IsBase base after.seen now.geometry now.memory.map (joined fronts) → Holds now after base fronts last
holds_lists now after image number front groups lists base fronts last image_is number_is front_is groups_are is_base =
    let told = subst (λ (n : ℕ). KeepsLists now after (apply_all last (apply_all (joined fronts) base)) n front groups) number_is (subst (λ (i : Image). KeepsLists now after i number front groups) image_is lists) in
    record {
      keeps = told.keeps;
      before_last = ap (map changes_of) told.front_is ∙ front_is;
      in_last = ap changes_of told.groups_are ∙ groups_are;
      is_base = is_base;
    }

-- a byte of the image that map and data hold is that of its place
stored_byte : (content old : List ℕ) (geometry : Geometry) (states : List Kind) (block offset : ℕ) → slice_index content (block_at geometry block + offset) ≡ slice_index old (block_at geometry block + offset)
    → (stored_image old geometry states).byte (4096 * block + offset) ≡ (stored_image content geometry states).byte (4096 * block + offset)
stored_byte content old geometry states block offset same =
    let at : block_at geometry block + offset ≡ block_at geometry 0 + (4096 * block + offset) = omega arith in
    ap (λ (byte : ℕ). if is_data (state_at states ((4096 * block + offset) / 4096)) then byte else 0)
    (sym (subst (λ (place : ℕ). slice_index content place ≡ slice_index old place) at same))

-- the base where data that no command writes stay
pub base_stays : (base : Image) (old content : List ℕ) (geometry : Geometry) (states : List Kind) (commands more : List Change) → IsBase base old geometry states commands
    → ((block : ℕ) → is_written block more ≡ false → is_written block commands ≡ false)
    → ((block offset : ℕ) → offset < 4096 → is_written block more ≡ false → slice_index content (block_at geometry block + offset) ≡ slice_index old (block_at geometry block + offset))
    → IsBase base content geometry states more
base_stays base old content geometry states commands more is fewer same = record {
  blocks = is.blocks;
  kinds = is.kinds;
  bytes = λ block offset small none.
      is.bytes block offset small (fewer block none) ∙ stored_byte content old geometry states block offset (same block offset small none);
}

or_both : (a b : Bool) → a ≡ false → b ≡ false → (a || b) ≡ false
or_both a b first second = λ i. first i || second i

-- what the commands of an area make of the base, and of what map and data hold: the same but for the data of blocks that
-- later commands write
module _ (base : Image) (content : List ℕ) (geometry : Geometry) (states : List Kind) (place next : ℕ) (groups : List StoredGroup) (stand : Stand geometry.blocks content place next groups)
    (more : List Change) (is : IsBase base content geometry states (changes_of groups ++ more)) where
  abbrev stored : Image
  stored = stored_image content geometry states

  none_touched : (touch : Option Touch) (touched : Bool) → is_some touch ≡ touched → touch ≡ None → touched ≡ false
  none_touched touch touched same none = sym same ∙ ap is_some none

  untouched_byte : (block offset : ℕ) → offset < 4096 → is_written block more ≡ false → (touch : Option Touch) → last_touch block (touched_by_groups place groups) ≡ touch
      → byte_after_touch touch content offset (base.byte (4096 * block + offset)) ≡ byte_after_touch touch content offset (stored.byte (4096 * block + offset))
  untouched_byte block offset small later None none =
      is.bytes block offset small
      (written_append block (changes_of groups) more
      ∙ or_both (is_written block (changes_of groups)) (is_written block more)
      (untouched_unwritten block (changes_of groups) (none_touched _ (list_any (touches block) (changes_of groups)) (groups_touched geometry.blocks block content place next groups stand).any none))
      later)
  untouched_byte block offset small later (Some (Put from)) put = refl
  untouched_byte block offset small later (Some (Clear kind)) clear = refl

  pub made_byte : (block offset : ℕ) → offset < 4096 → is_written block more ≡ false
      → (apply_all (changes_of groups) base).byte (4096 * block + offset) ≡ (apply_all (changes_of groups) stored).byte (4096 * block + offset)
  made_byte block offset small later =
      let touch = last_touch block (touched_by_groups place groups) in
      groups_byte geometry.blocks content place next groups stand base block offset small
      ∙ untouched_byte block offset small later touch refl
      ∙ sym (groups_byte geometry.blocks content place next groups stand stored block offset small)

  pub made_kind : (block : ℕ) → (apply_all (changes_of groups) base).kind block ≡ (apply_all (changes_of groups) stored).kind block
  made_kind block =
      groups_kind geometry.blocks content place next groups stand base block
      ∙ ap (λ (kind : Kind). kind_after (last_touch block (touched_by_groups place groups)) kind) (is.kinds block)
      ∙ sym (groups_kind geometry.blocks content place next groups stand stored block)

  pub made_blocks : (apply_all (changes_of groups) base).blocks ≡ geometry.blocks
  made_blocks = blocks-apply_all (changes_of groups) base ∙ is.blocks
