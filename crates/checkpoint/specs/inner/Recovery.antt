-- Definitions for contracts between functions of this crate, next to those of `Recovery`.
use Rattle.std.specs.Prelude.{ℕ, zero, suc}
use Rattle.checkpoint.specs.declared.fault.KeeperFault.{KeeperFault}
use Rattle.checkpoint.specs.declared.fault.KeeperFault.TheVariants.{NoMemory, DeviceFault, BadMap, NoHeader, BadHeader, NumbersFull, AreaFull, OutOfOrder, DamagedGroup, NotNow, Failed, AreaSmall}
use Rattle.device_image.specs.Keeper.{Phase, One, Copying, Mapped}

-- no checkpoint is under way, or one whose map isn't written
abbrev pub IsBegun : Phase → Type 0
IsBegun One = Unit {0}
IsBegun (Copying left) = Unit {0}
IsBegun Mapped = ⊥

-- the refusals that the steps of a checkpoint give in their times
abbrev pub IsRecoveryFault : KeeperFault → Type 0
IsRecoveryFault NoMemory = Unit {0}
IsRecoveryFault DeviceFault = Unit {0}
IsRecoveryFault BadMap = ⊥
IsRecoveryFault NoHeader = ⊥
IsRecoveryFault BadHeader = ⊥
IsRecoveryFault NumbersFull = Unit {0}
IsRecoveryFault AreaFull = ⊥
IsRecoveryFault OutOfOrder = ⊥
IsRecoveryFault DamagedGroup = ⊥
IsRecoveryFault NotNow = ⊥
IsRecoveryFault Failed = ⊥
IsRecoveryFault AreaSmall = ⊥

-- how many headers it takes to empty an area in which the next gate has this place
abbrev pub headers_at : ℕ → ℕ
headers_at zero = 0
headers_at (suc place) = 2
