use Rattle.std.proofs.Common.{◌≡◌, vec_len}
use Rattle.std.specs.Io.KnownBytes.{Keeps}
use Rattle.nbd_wire.proofs.bytes.read_some.Given as goal

abbrev pub invariant-loop : goal.invariant-loop
invariant-loop g l = record {
  same : vec_len l.piece ≡ vec_len l.fn.piece;
  kept : Keeps (g.R.Read.remaining l.fn.input) (g.R.Read.remaining l.input);
}
