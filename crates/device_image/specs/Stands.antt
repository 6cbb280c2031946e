-- What the content of a device stands for: an image, and the number of the last command in it.
use Rattle.std.specs.Prelude.{ℕ, suc, ◌≡◌, ◌+◌, ◌%◌, ◌/◌, if◌then◌else◌, List, [], ◌∷◌, length, slice_index}
use Rattle.std.specs.List.{flat_map}
use Rattle.alloc_map.specs.Codes.{state_at}
use Rattle.header_slots.specs.Slots.{HoldsHeader}
use Rattle.header_slots.specs.declared.header.Header.{Header}
use Rattle.image_model.specs.Change.{Change}
use Rattle.image_model.specs.declared.side.Side.{Side}
pub use Rattle.image_model.specs.Image.{is_data}
use Rattle.image_model.specs.Image.{Image, apply_all}
use Rattle.image_model.specs.declared.command.Kind.{Kind}
use Rattle.image_model.specs.declared.command.Kind.TheVariants.{Hole}
use Rattle.image_model.specs.declared.geometry.Geometry.{Geometry}
use Rattle.journal_format.specs.Area.{AreaState}
use Rattle.journal_format.specs.GroupList.{IsList, changes_of, next_behind}
use Rattle.journal_format.specs.Spelling.{StoredGroup}
use Rattle.regions.specs.Layout.{area_at, area_size, areas_in, behind, block_at, map_at, ring}
use Rattle.regions.specs.Map.{HoldsMap}

-- an image of this many blocks of which nothing was written
abbrev pub holes : ℕ → Image
holes count = record { blocks = count; byte = λ place. 0; kind = λ block. Hole }

-- the image that map and data hold: a block that isn't data reads as zero, whatever stands in the data region
abbrev pub stored_image : List ℕ → Geometry → List Kind → Image
stored_image content geometry states = record {
  blocks = geometry.blocks;
  byte = λ place. if is_data (state_at states (place / 4096)) then slice_index content (block_at geometry 0 + place) else 0;
  kind = λ block. state_at states block;
}

-- the number that follows this one; 0 where no number is left
abbrev pub next_number : ℕ → ℕ
next_number number = (number + 1) % 18446744073709551616

-- an area of a device with these sizes; the place in it and the next number are those of an empty one
abbrev pub area_of : Geometry → ℕ → AreaState
area_of geometry area = record { from = area_at geometry area; bytes = area_size geometry; blocks = geometry.blocks; next = 0; gate = 0; touched = [] }

-- the areas in use, in the order of the ring
abbrev pub in_use : Header → List ℕ
in_use header = ring (areas_in header.geometry) (suc header.before_last) header.first_area

-- those before the last, and the last
abbrev pub areas_before_last : Header → List ℕ
areas_before_last header = ring (areas_in header.geometry) header.before_last header.first_area

abbrev pub last_area : Header → ℕ
last_area header = behind (areas_in header.geometry) header.before_last header.first_area

-- These areas hold these lists of groups: that of the first begins with the number `next`, and each further one with the
-- number after those before it.
abbrev pub HoldLists : List ℕ → List ℕ → Geometry → ℕ → List (List StoredGroup) → Type 0
HoldLists [] content geometry next [] = Unit {0}
HoldLists [] content geometry next (groups ∷ lists) = ⊥
HoldLists (area ∷ areas) content geometry next [] = ⊥
HoldLists (area ∷ areas) content geometry next (groups ∷ lists) =
    IsList (area_of geometry area) next groups content × HoldLists areas content geometry (next_behind next groups) lists

-- the changes of lists of groups, one after another
abbrev pub all_changes : List (List StoredGroup) → List Change
all_changes lists = flat_map changes_of lists

-- The content stands for this image, whose last command has this number: the header in force isn't bad, its map slot
-- holds a map, its areas in use hold lists of groups, numbered from the base on, and the image is what map and data hold
-- with all their changes made.
pub record StandsFor (content : List ℕ) (image : Image) (number : ℕ) : Type 0 where
  pub header : Header
  pub slot : Side
  pub states : List Kind
  pub lists : List (List StoredGroup)
  pub in_force : HoldsHeader content (length content) header slot
  pub map : HoldsMap content (map_at header.geometry header.map_slot) header.geometry.blocks states
  pub held : HoldLists (in_use header) content header.geometry (next_number header.base) lists
  pub count : number ≡ header.base + length (all_changes lists)
  pub shows : image ≡ apply_all (all_changes lists) (stored_image content header.geometry states)
