-- What rests on reads with no lock held, and on the device.
use Rattle.std.proofs.Common.{ℕ}
use Rattle.image_model.specs.Image.{Image}
use Rattle.order_book.specs.Order.{OrderState}
use Rattle.shared_store.specs.Orders.{AreRight, IsOrderOfHistory, KeepsImage, SpanRead, Trusting}

-- what holds under a premise holds under another one that has it
pub weaker : (opening : ℕ) (image : Image) (less more : Type 0) (order : OrderState) → (more → less) → IsOrderOfHistory opening image less order → IsOrderOfHistory opening image more order
weaker opening image less more order has is = record {
  mark = is.mark;
  blocks = is.blocks;
  takes = is.takes;
  shows = λ sure. is.shows (has sure);
  sent = is.sent;
  all_sent = is.all_sent;
  sealed = is.sealed;
  clean = is.clean;
  behind = is.behind;
  all_clean = is.all_clean;
  dirty = is.dirty;
  settled = is.settled;
  noted = is.noted;
}

module _ (opening : ℕ) (image : Image) (vouches : SpanRead → Type 0) (trusted : Type 0) where
  -- an order of which the same holds rests on the same reads
  pub kept : (old new : OrderState) (is : KeepsImage opening image vouches trusted old)
      → (IsOrderOfHistory opening image (trusted × AreRight opening image is.reads) old → IsOrderOfHistory opening image (trusted × AreRight opening image is.reads) new)
      → KeepsImage opening image vouches trusted new
  kept old new is step = record { reads = is.reads; vouched = is.vouched; is = step is.is }

  -- and so does what it tells
  pub told_by : {P : Type 0} (old : OrderState) (is : KeepsImage opening image vouches trusted old) → (trusted × AreRight opening image is.reads → P) → Trusting opening image vouches trusted P
  told_by old is tells = record { reads = is.reads; vouched = is.vouched; so = λ sure right. tells (sure, right) }
