-- an opening after which memory was refused
use Rattle.std.specs.Prelude.{Ok, Err}
use Rattle.std.proofs.Common.{◌≡◌, List, ℕ, sym, subst}
use Rattle.checkpoint.specs.Opening.{IsOpening}
use Rattle.checkpoint.specs.declared.fault.KeeperFault.TheVariants.{NoMemory}
use Rattle.checkpoint.specs.laws.FirstSync.{starved}
use Rattle.device_image.specs.Keeper.{KeeperState}
use Rattle.disk_model.specs.Disk.{State}

module _ {D : Type 0} (before : State) (state : D → State) (keeper : KeeperState D) where
  -- the device that the keeper hands back was opened, and what a crash leaves of it stands for the same
  pub handed_back : (disk : D) → disk ≡ keeper.disk → (found : List ℕ) → IsOpening before state (Ok keeper) found → IsOpening before state (Err (NoMemory, disk)) found
  handed_back disk is found opening =
      subst (λ (d : D). IsOpening before state (Err (NoMemory, d)) found) (sym is)
      (starved before state found keeper opening)
