-- what a crash may leave of a device that was served
use Rattle.std.specs.Prelude.{ℕ, ◌+◌, List, length}
use mathlib.Core.List.{IsPrefix}
use Rattle.device_image.specs.Stands.{StandsFor}
use Rattle.disk_model.specs.Disk.{MayLeave, State}
use Rattle.export_model.specs.OneLog.{IsOneLog, RosterState}
use Rattle.export_model.specs.declared.step.Mode.{Mode}
use Rattle.image_model.specs.Change.{Change}
use Rattle.image_model.specs.Image.{Image, apply_all}
use Rattle.shared_store.specs.Keepers.{HasLeft}
use Rattle.shared_store.specs.Parts.{StandsWithin}

-- A crash at any moment since the opening leaves the image that was found then, after a prefix of this history. A crash now leaves a
-- prefix that has every command up to this number.
pub record LeavesHistory (start now : State) (opening : ℕ) (image : Image) (history : List Change) (least : ℕ) : Type 0 where
  pub passed : HasLeft start now opening image history
  pub left : (content : List ℕ) → MayLeave now content → StandsWithin opening image history least content

-- There is one log of all that the roster's clients sent and were answered, which agrees with this history; and whatever a crash may leave of
-- a device that is trusted has all that the log covers.
pub record KeepsLog (trusted : Type 0) (mode : Mode) (sure : Type 0) (start now : State) (opening : ℕ) (image : Image) (history : List Change) (roster : RosterState) : Type 0 where
  pub durable : ℕ
  pub log : IsOneLog trusted mode image history durable roster
  pub left : sure → LeavesHistory start now opening image history (opening + durable)

-- The content of a device stands for the image after a prefix of a history, and that prefix begins with all of these commands.
pub record HasStored (opening : ℕ) (image : Image) (history commands : List Change) (content : List ℕ) : Type 0 where
  pub stored : List Change
  pub begins : IsPrefix stored history
  pub has : IsPrefix commands stored
  pub stands : StandsFor content (apply_all stored image) (opening + length stored)
