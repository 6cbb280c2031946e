-- what an opening came to for the keeper of the device
use Rattle.std.specs.Prelude.{Result, Ok, Err}
use Rattle.checkpoint.specs.declared.fault.KeeperFault.{KeeperFault}
use Rattle.device_image.specs.Keeper.{KeeperState}

-- The keeper of what was opened, or the refusal.
abbrev pub keeper_part : {T D : Type 0} → Result T (KeeperFault × D) → (T → KeeperState D) → Result (KeeperState D) (KeeperFault × D)
keeper_part (Ok opened) keeper = Ok (keeper opened)
keeper_part (Err refused) keeper = Err refused
