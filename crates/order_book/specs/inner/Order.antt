-- Definitions for contracts between functions of this crate, next to those of `Order`.
use Rattle.std.specs.Prelude.{Option}
use Rattle.image_model.specs.declared.command.Command.{Command}
use Rattle.image_model.specs.Change.{change_of}
use Rattle.order_book.specs.declared.fault.OrderFault.{OrderFault}
use Rattle.order_book.specs.Order.{OrderState, refusal_for}

abbrev pub refusal_of : OrderState → Command → Option OrderFault
refusal_of order command = refusal_for order (change_of command)
