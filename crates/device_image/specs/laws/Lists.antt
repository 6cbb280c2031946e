-- A keeper keeps an image, by lists of groups that are told.
use Rattle.std.proofs.Common.{◌≡◌, ℕ, List}
use Rattle.disk_model.specs.Disk.{State}
use Rattle.image_model.specs.Image.{Image}
use Rattle.journal_format.specs.Spelling.{StoredGroup}
use Rattle.device_image.specs.Keeper.{KeeperState}
use Rattle.device_image.specs.Keeps.{Keeps}

-- these are the lists in the areas before the last, and in the last
pub record KeepsLists {D : Type 0} (keeper : KeeperState D) (state : State) (image : Image) (number : ℕ) (front : List (List StoredGroup)) (groups : List StoredGroup) : Type 0 where
  pub keeps : Keeps keeper state image number
  pub front_is : keeps.areas.front ≡ front
  pub groups_are : keeps.areas.groups ≡ groups
