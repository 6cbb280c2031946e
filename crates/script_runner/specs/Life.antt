-- A script's device from one opening to the next crash.
use Rattle.std.specs.Prelude.{ℕ}
use Rattle.device_image.specs.Keeper.{KeeperState}
use Rattle.disk_model.specs.Disk.{State}
use Rattle.order_book.specs.Order.{OrderState}
use Rattle.export_steps.specs.Bench.{BenchState}
use Rattle.export_steps.specs.Parts.{IsWorldOf}
use Rattle.export_model.specs.World.{World}

-- A life with these parts is one of this world, where the device keeps to the model.
abbrev pub IsLifeOf : {D : Type 0} → (D → State) → (D → ℕ) → (D → Type 0) → World → OrderState → KeeperState D → BenchState → Type 0
IsLifeOf state faults honest world order keeper bench =
    IsWorldOf world order keeper (faults keeper.disk) bench (honest keeper.disk) (state keeper.disk)
