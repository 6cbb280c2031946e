-- Definitions for contracts between functions of this crate, next to those of `Upgrade`.
use Rattle.checkpoint.specs.declared.fault.KeeperFault.{KeeperFault}
use Rattle.checkpoint.specs.declared.fault.KeeperFault.TheVariants.{NoMemory, DeviceFault, BadMap, NoHeader, BadHeader, NumbersFull, AreaFull, OutOfOrder, DamagedGroup, NotNow, Failed, AreaSmall}

-- the refusals of a change of the layout
abbrev pub IsLayoutFault : KeeperFault → Type 0
IsLayoutFault NoMemory = ⊥
IsLayoutFault DeviceFault = Unit {0}
IsLayoutFault BadMap = ⊥
IsLayoutFault NoHeader = ⊥
IsLayoutFault BadHeader = ⊥
IsLayoutFault NumbersFull = Unit {0}
IsLayoutFault AreaFull = ⊥
IsLayoutFault OutOfOrder = ⊥
IsLayoutFault DamagedGroup = ⊥
IsLayoutFault NotNow = ⊥
IsLayoutFault Failed = ⊥
IsLayoutFault AreaSmall = Unit {0}
