-- what callers see of an order's fields
use Rattle.order_book.specs.declared.order.Order.TheInside.{Inside}
use Rattle.order_book.specs.Cached.{dirty_of, frames_of}
use Rattle.order_book.specs.Order.{OrderState}

abbrev pub state_of : {B : Type 0} → Inside B → OrderState
state_of order = record {
  opening = order.opening;
  durable = order.durable;
  sealed = order.sealed;
  mark = order.mark;
  history = order.seat.history;
  base = order.seat.base;
  in_hand = order.in_hand;
  pending = order.pending.commands;
  bodies = order.backlog.bodies;
  cache = order.cache;
  dirty = dirty_of order.cache;
  frames = frames_of order.cache;
  area = order.area;
  stopped = order.stopped;
}
