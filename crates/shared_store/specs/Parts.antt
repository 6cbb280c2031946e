-- parts of the one history of commands
use Rattle.std.specs.Prelude.{ℕ, ◌≡◌, ◌+◌, ◌≤◌, List, ◌++◌, length, map}
use mathlib.Core.List.{IsPrefix}
use Rattle.device_image.specs.Stands.{StandsFor}
use Rattle.image_model.specs.Change.{AreChanges, Change, change_of}
use Rattle.image_model.specs.Image.{Image, apply_all}
use Rattle.journal_format.specs.Group.{Numbered}

-- The changes stand one after another in the history, the first of them under the number `first`. The history's first change has the
-- number after `opening`.
pub record IsPartOf (opening : ℕ) (history : List Change) (first : ℕ) (changes : List Change) : Type 0 where
  pub before : List Change
  pub number : first ≡ opening + length before + 1
  pub within : IsPrefix (before ++ changes) history

-- a sealed group: its commands, and the history that is told with it
pub record SealedState : Type 0 where
  pub group : Numbered
  pub told : List Change

-- The commands of a sealed group stand in the history that is told with it, under their numbers, and an image of `blocks` blocks
-- takes them.
pub record IsSealed (opening blocks : ℕ) (sealed : SealedState) : Type 0 where
  pub part : IsPartOf opening sealed.told sealed.group.first (map change_of sealed.group.commands)
  pub takes : AreChanges blocks (map change_of sealed.group.commands)

-- The content of a device stands for the image after a prefix of a history, and that prefix has all commands up to the number `least`.
pub record StandsWithin (opening : ℕ) (image : Image) (history : List Change) (least : ℕ) (content : List ℕ) : Type 0 where
  pub stored : List Change
  pub begins : IsPrefix stored history
  pub reaches : least ≤ opening + length stored
  pub stands : StandsFor content (apply_all stored image) (opening + length stored)
