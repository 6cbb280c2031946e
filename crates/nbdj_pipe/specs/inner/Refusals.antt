-- Definitions for contracts between functions of this crate, next to those of `Refusals`.
use Rattle.front_end.specs.declared.refusal.Refusal.{Refusal}
use Rattle.front_end.specs.declared.refusal.Refusal.TheVariants.{NoMemory, DeviceFault, BadMap, NoHeader, BadHeader, NumbersFull, AreaFull, OutOfOrder, DamagedGroup, NotNow, Failed, NoRoom, PeerClosed, ProtocolEnd, StreamFault, AreaSmall}

-- a refusal of an export, which has no part in the streams: memory and generations
abbrev pub IsOfExport : Refusal → Type 0
IsOfExport NoMemory = Unit {0}
IsOfExport DeviceFault = ⊥
IsOfExport BadMap = ⊥
IsOfExport NoHeader = ⊥
IsOfExport BadHeader = ⊥
IsOfExport AreaSmall = ⊥
IsOfExport NumbersFull = Unit {0}
IsOfExport AreaFull = ⊥
IsOfExport OutOfOrder = ⊥
IsOfExport DamagedGroup = ⊥
IsOfExport NotNow = ⊥
IsOfExport Failed = Unit {0}
IsOfExport NoRoom = ⊥
IsOfExport PeerClosed = ⊥
IsOfExport ProtocolEnd = ⊥
IsOfExport StreamFault = ⊥

-- a refusal that ends a session before its input does: memory, generations, and what the streams refuse
abbrev pub IsEarly : Refusal → Type 0
IsEarly NoMemory = Unit {0}
IsEarly DeviceFault = ⊥
IsEarly BadMap = ⊥
IsEarly NoHeader = ⊥
IsEarly BadHeader = ⊥
IsEarly AreaSmall = ⊥
IsEarly NumbersFull = Unit {0}
IsEarly AreaFull = ⊥
IsEarly OutOfOrder = ⊥
IsEarly DamagedGroup = ⊥
IsEarly NotNow = ⊥
IsEarly Failed = Unit {0}
IsEarly NoRoom = ⊥
IsEarly PeerClosed = ⊥
IsEarly ProtocolEnd = ⊥
IsEarly StreamFault = Unit {0}
