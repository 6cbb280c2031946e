-- What a keeper remembers of the commands in its last area, whatever its device holds.
use Rattle.std.specs.Prelude.{ℕ, ◌≡◌, List}
use Rattle.std.specs.List.{list_any}
use Rattle.std.specs.Option.{is_some}
use Rattle.image_model.specs.Change.{Change, AreChanges}
use Rattle.image_model.specs.Dirty.{last_write, touches}
use Rattle.journal_format.specs.Touches.{last_touch}
use Rattle.journal_format.specs.declared.touch.TouchedRange.{TouchedRange}
use Rattle.device_image.specs.Keeper.{KeeperState, is_put}

-- Ranges tell of a block what commands do to it: whether one touches it, and whether the last that does writes it.
pub record TellOf (block : ℕ) (ranges : List TouchedRange) (commands : List Change) : Type 0 where
  pub any : is_some (last_touch block ranges) ≡ list_any (touches block) commands
  pub put : is_put (last_touch block ranges) ≡ is_some (last_write block 0 commands)

-- The groups in the last area hold these commands, which the image takes: what the keeper has noted tells of them.
pub record Remembers {D : Type 0} (keeper : KeeperState D) (commands : List Change) : Type 0 where
  pub takes : AreChanges keeper.geometry.blocks commands
  pub noted : (block : ℕ) → TellOf block keeper.memory.area.touched commands
