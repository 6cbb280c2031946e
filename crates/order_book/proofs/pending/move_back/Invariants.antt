use Rattle.std.proofs.Common.{◌≡◌, ◌+◌, ◌++◌, vec_len}
use Rattle.std.specs.VecDeque.{deque_len, deque_capacity}
use Rattle.order_book.proofs.pending.move_back.Given as goal

abbrev pub invariant-loop-command : goal.invariant-loop-command
invariant-loop-command l =
    (l.returned.items ++ l.commands.items ≡ l.initial.returned.items ++ l.initial.commands.items)
    × (deque_len l.commands + vec_len l.returned ≡ deque_len l.initial.commands + vec_len l.initial.returned)
    × (deque_capacity l.commands ≡ deque_capacity l.initial.commands)

abbrev pub decreases-loop-command : goal.decreases-loop-command
decreases-loop-command l = vec_len l.returned
