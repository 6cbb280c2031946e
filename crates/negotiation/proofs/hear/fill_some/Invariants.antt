use Rattle.std.proofs.Common.{◌≡◌}
use Rattle.std.specs.Io.KnownBytes.{Keeps}
use Rattle.negotiation.proofs.hear.fill_some.Given as goal

abbrev pub invariant-loop : goal.invariant-loop
invariant-loop g l = record {
  same : l.session ≡ l.fn.session;
  kept : Keeps (g.R.Read.remaining l.fn.input) (g.R.Read.remaining l.input);
}
