-- Which commands a journal holds, and over which image.
use Rattle.std.specs.Prelude.{ℕ, ◌≡◌, ◌+◌, ◌*◌, ◌<◌, Bool, false, List, [], length, map}
use Rattle.std.specs.List.{flat_map, list_any}
use Rattle.alloc_map.specs.Codes.{state_at}
use Rattle.disk_model.specs.Disk.{State}
use Rattle.image_model.specs.Change.{Change}
use Rattle.image_model.specs.Image.{Image, apply_all, writes}
use Rattle.image_model.specs.declared.command.Kind.{Kind}
use Rattle.image_model.specs.declared.geometry.Geometry.{Geometry}
use Rattle.journal_format.specs.GroupList.{changes_of}
use Rattle.device_image.specs.Keeper.{KeeperState, One}
use Rattle.device_image.specs.Keeps.{Keeps}
use Rattle.device_image.specs.Stands.{stored_image}

-- whether one of the commands writes the block
abbrev pub is_written : ℕ → List Change → Bool
is_written block changes = list_any (writes block) changes

-- Map and data hold this image, but for the data of blocks that the commands write, which a checkpoint may have copied.
pub record IsBase (base : Image) (content : List ℕ) (geometry : Geometry) (states : List Kind) (commands : List Change) : Type 0 where
  pub blocks : base.blocks ≡ geometry.blocks
  pub kinds : (block : ℕ) → base.kind block ≡ state_at states block
  pub bytes : (block offset : ℕ) → offset < 4096 → is_written block commands ≡ false
      → base.byte (4096 * block + offset) ≡ (stored_image content geometry states).byte (4096 * block + offset)

-- commands of several areas, one area after another
abbrev pub joined : List (List Change) → List Change
joined fronts = flat_map (λ front. front) fronts

-- The keeper, whose device is in this state, holds this image in map and data, and over it these commands: `fronts` has the
-- commands of each area before the last, which checkpoints carry into map and data one after another, and `last` those of
-- the last area.
pub record Holds {D : Type 0} (keeper : KeeperState D) (state : State) (base : Image) (fronts : List (List Change)) (last : List Change) : Type 0 where
  pub keeps : Keeps keeper state (apply_all last (apply_all (joined fronts) base)) (keeper.base + length (joined fronts) + length last)
  pub before_last : map changes_of keeps.areas.front ≡ fronts
  pub in_last : changes_of keeps.areas.groups ≡ last
  pub is_base : IsBase base state.seen keeper.geometry keeper.memory.map (joined fronts)

-- What a keeper that keeps this image holds: if one area is in use, nothing before the last area.
pub record HoldsAs {D : Type 0} (keeper : KeeperState D) (state : State) (image : Image) (number : ℕ) : Type 0 where
  pub base : Image
  pub fronts : List (List Change)
  pub last : List Change
  pub holds : Holds keeper state base fronts last
  pub image_is : image ≡ apply_all last (apply_all (joined fronts) base)
  pub number_is : number ≡ keeper.base + length (joined fronts) + length last
  pub one : keeper.phase ≡ One → fronts ≡ []
  pub several : fronts ≡ [] → keeper.phase ≡ One
