use Rattle.std.proofs.Common.{◌≡◌, ◌≤◌}
use mathlib.Core.List.{IsPrefix}
use Rattle.export.proofs.export.Export.wait_for.Given as goal

abbrev pub invariant-loop : goal.invariant-loop
invariant-loop g l = record {
  iterates : (goal.iterator-loop g).can_next l.iterator' × (goal.iterator-loop g).is_finite l.iterator';
  own : l.pass.own ≡ l.fn.pass.own;
  client : l.pass.client ≡ l.fn.pass.client;
  knew : IsPrefix l.fn.pass.history l.pass.history;
  lasts : l.fn.pass.durable ≤ l.pass.durable;
}
