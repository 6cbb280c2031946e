use Rattle.std.proofs.Common.{arith}
use Rattle.order_book.proofs.Editing.{trim_none, trim_some}
use Rattle.order_book.proofs.edits.trim_command.Goals as goal

pub returns-then-first-end : goal.returns-then-first-end
returns-then-first-end c = λ image. trim_some c.args.offset c.args.count _ _ image (omega arith) (omega arith) c.if-first-end.true

pub returns : goal.returns
returns c = λ image. trim_none c.args.offset c.args.count _ _ image (omega arith) (omega arith) c.if-first-end.false
