-- How faults of a stream of requests end a session.
use Rattle.nbd_wire.specs.declared.error.WireFault.{WireFault}
use Rattle.nbd_wire.specs.declared.error.WireFault.TheVariants as faults
use Rattle.negotiation.specs.declared.end.End.{End}
use Rattle.negotiation.specs.declared.end.End.TheVariants.{NoMemory, ProtocolEnd}

abbrev pub end_for : WireFault → End
end_for faults.NoMemory = NoMemory
end_for (faults.Malformed fault) = ProtocolEnd
