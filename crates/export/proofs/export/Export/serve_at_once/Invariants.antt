use Rattle.std.proofs.Common.{◌≡◌}
use Rattle.export.proofs.export.Export.serve_at_once.Given as goal

abbrev pub invariant-loop : goal.invariant-loop
invariant-loop g l = record {
  iterates : (goal.iterator-loop g).can_next l.iterator' × (goal.iterator-loop g).is_finite l.iterator';
  request : l.request ≡ l.fn.request;
  pass : l.pass ≡ l.fn.pass;
}
