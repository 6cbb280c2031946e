-- Which refusals an export, an early end of a session and a session may come to.
use Rattle.front_end.specs.declared.refusal.Refusal.{Refusal}
use Rattle.front_end.specs.declared.refusal.Refusal.TheVariants.{NoMemory, DeviceFault, BadMap, NoHeader, BadHeader, NumbersFull, AreaFull, OutOfOrder, DamagedGroup, NotNow, Failed, NoRoom, PeerClosed, ProtocolEnd, StreamFault, AreaSmall}

-- a refusal that a session may end with; the others are an opening's
abbrev pub IsOfSession : Refusal → Type 0
IsOfSession NoMemory = Unit {0}
IsOfSession DeviceFault = Unit {0}
IsOfSession BadMap = ⊥
IsOfSession NoHeader = ⊥
IsOfSession BadHeader = ⊥
IsOfSession AreaSmall = ⊥
IsOfSession NumbersFull = Unit {0}
IsOfSession AreaFull = ⊥
IsOfSession OutOfOrder = ⊥
IsOfSession DamagedGroup = ⊥
IsOfSession NotNow = ⊥
IsOfSession Failed = Unit {0}
IsOfSession NoRoom = ⊥
IsOfSession PeerClosed = Unit {0}
IsOfSession ProtocolEnd = Unit {0}
IsOfSession StreamFault = Unit {0}
