use Rattle.std.proofs.Common.{◌≡◌, ◌++◌, List, ℕ, length}
use Rattle.std.specs.Io.KnownBytes.{Appends}
use Rattle.nbd_wire.proofs.bytes.write_unflushed.Given as goal

-- the first of the bytes are written, and the rest is left
abbrev pub invariant-loop-rest : goal.invariant-loop-rest
invariant-loop-rest g l = record {
  first : List ℕ;
  whole : l.fn.bytes ≡ first ++ l.rest;
  written : Appends (g.W.Write.contents l.fn.output) (g.W.Write.contents l.output) first;
}

abbrev pub decreases-loop-rest : goal.decreases-loop-rest
decreases-loop-rest g l = length l.rest
