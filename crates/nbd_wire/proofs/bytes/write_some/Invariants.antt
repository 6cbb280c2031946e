use Rattle.std.specs.Io.KnownBytes.{Keeps}
use Rattle.nbd_wire.proofs.bytes.write_some.Given as goal

abbrev pub invariant-loop : goal.invariant-loop
invariant-loop g l = record { none : Keeps (g.W.Write.contents l.fn.output) (g.W.Write.contents l.output) }
