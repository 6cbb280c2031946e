use Rattle.std.proofs.Common.{◌≡◌, sum, drop}
use Rattle.order_book.proofs.backlog.Backlog.forget.Given as goal

abbrev pub invariant-loop : goal.invariant-loop
invariant-loop l = (l.self-inside.bodies.items ≡ drop l.counter l.initial.self-inside.bodies.items) × (l.self-inside.total ≡ sum l.self-inside.bodies.items)
