-- Definitions for contracts between functions of this crate, next to those of `Life`.
use Rattle.std.specs.Prelude.{ℕ, List, ◌≡◌, Bool, false}
use Rattle.disk_model.specs.Disk.{State, MayLeave}
use Rattle.device_image.specs.Keeper.{KeeperState}
use Rattle.device_image.specs.Keeps.{Keeps}
use Rattle.device_image.specs.Stands.{StandsFor}
use Rattle.image_model.specs.Image.{Image}

-- A keeper that was opened, or upgraded, works and keeps an image. A content stands for that image which a crash at the start might
-- have left; an opening keeps its sizes and its layout.
pub record IsOpened {D : Type 0} (start : State) (upgrades : Bool) (keeper : KeeperState D) (state : State) : Type 0 where
  pub image : Image
  pub content : List ℕ
  pub fixed : MayLeave start content
  pub stands : StandsFor content image keeper.count
  pub sizes : upgrades ≡ false → keeper.geometry ≡ stands.header.geometry
  pub keeps : Keeps keeper state image keeper.count

-- a content that a crash might have left of the device stands for this image and this number
abbrev pub IsFoundFrom : State → Image → ℕ → Type 0
IsFoundFrom start image number = (content : List ℕ) × MayLeave start content × StandsFor content image number

-- whatever a crash may leave of the later device stands for nothing but what a crash might have left of the earlier one
abbrev pub FindsNoMore : State → State → Type 0
FindsNoMore before after = (content : List ℕ) (image : Image) (number : ℕ) → MayLeave after content → StandsFor content image number → IsFoundFrom before image number

-- every content that a crash may leave of the later device it might have left of the earlier one
abbrev pub LeavesNoMore : State → State → Type 0
LeavesNoMore before after = (content : List ℕ) → MayLeave after content → MayLeave before content
