use Rattle.std.proofs.Common.{◌≡◌, ◌≤◌, take}
use Rattle.image_model.specs.Command.{bodies_of}
use Rattle.order_book.proofs.pending.longest.Given as goal

abbrev pub invariant-loop-count : goal.invariant-loop-count
invariant-loop-count l = (l.sum ≡ bodies_of (take l.count l.commands.items)) × (l.sum ≤ l.limit)
