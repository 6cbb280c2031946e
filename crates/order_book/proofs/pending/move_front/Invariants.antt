use Rattle.std.proofs.Common.{◌≡◌, ◌++◌, take, drop}
use Rattle.std.specs.Vec.{vec_capacity}
use Rattle.std.specs.VecDeque.{deque_capacity}
use Rattle.order_book.proofs.pending.move_front.Given as goal

abbrev pub invariant-loop : goal.invariant-loop
invariant-loop l =
    (l.taken.items ≡ l.initial.taken.items ++ take l.counter l.initial.commands.items)
    × (l.commands.items ≡ drop l.counter l.initial.commands.items)
    × (vec_capacity l.taken ≡ vec_capacity l.initial.taken)
    × (deque_capacity l.commands ≡ deque_capacity l.initial.commands)
