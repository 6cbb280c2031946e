-- What the types of a server may be sent to, as its bounds say.
use denote.Param.Send.{sendable}
use Rattle.server.proofs.in_flight.fn.read_all.scope.Goals as goal

pub run-requires-send-B : goal.run-requires-send-B
run-requires-send-B g c κs within = search (sendable, c.requires.1.1.1.1.1.1.0)

pub run-requires-send-D : goal.run-requires-send-D
run-requires-send-D g c κs within = search (sendable, c.requires.1.1.1.1.1.1.1)

pub run-requires-send-H : goal.run-requires-send-H
run-requires-send-H g c κs within = search (sendable, c.requires.1.1.1.1.1.1.2)

pub run-requires-send-T : goal.run-requires-send-T
run-requires-send-T g c κs within = search (sendable, c.requires.1.1.1.1.1.1.3)
