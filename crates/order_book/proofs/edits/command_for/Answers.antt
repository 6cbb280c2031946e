use Rattle.std.proofs.Common.{◌/◌}
use Rattle.order_book.specs.Edits.{image_with}
use Rattle.order_book.proofs.edits.command_for.Goals as goal

pub returns-in-Zeroes : goal.returns-in-Zeroes
returns-in-Zeroes c = rw c.in-Zeroes.is c.zero_command.ensures

pub returns-in-Trim : goal.returns-in-Trim
returns-in-Trim c = rw c.in-Trim.is (c.trim_command.ensures (image_with c.args.cache.now (c.in-Trim.offset / 4096) c.args.head.now c.args.tail.now))
