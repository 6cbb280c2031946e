-- Definitions for contracts between functions of this crate, next to those of `Life`.
use Rattle.std.specs.Prelude.{ℕ, ◌≡◌, List, Ok}
use Rattle.checkpoint.specs.Opening.{IsOpening}
use Rattle.checkpoint.specs.Recovery.{IsRecovered}
use Rattle.device_image.specs.Keeper.{KeeperState}
use Rattle.disk_model.specs.Disk.{State}

-- A keeper as the opening of a device gave it: recovered, and what its content was.
pub record IsOpenedFrom {D : Type 0} (state : D → State) (faults : D → ℕ) (honest : D → Type 0) (start : D) (keeper : KeeperState D) : Type 0 where
  pub recovered : IsRecovered keeper
  pub counted : faults keeper.disk ≡ faults start
  pub stays : honest start → honest keeper.disk
  pub found : honest start → (content : List ℕ) × IsOpening (state start) state (Ok keeper) content
