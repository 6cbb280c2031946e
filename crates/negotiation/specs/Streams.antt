-- Ends that say nothing of what was read.
use Rattle.negotiation.specs.declared.end.End.{End}
use Rattle.negotiation.specs.declared.end.End.TheVariants.{IoFault, NoMemory, PeerClosed, ProtocolEnd}

-- an end that says nothing of the input
abbrev pub IsEarly : End → Type 0
IsEarly NoMemory = Unit {0}
IsEarly PeerClosed = ⊥
IsEarly ProtocolEnd = ⊥
IsEarly IoFault = Unit {0}
