-- What an order is asked by a client of which there is a log.
use Rattle.std.proofs.Common.{ℕ, subst, sym}
use Rattle.export_model.specs.declared.step.Mode.{Mode}
use Rattle.image_model.specs.Image.{Image, apply_all}
use Rattle.marks.specs.declared.view.Client.{Client}
use Rattle.nbd_wire.specs.Request.{Message}
use Rattle.order_book.specs.Order.{OrderState}
use Rattle.order_book.specs.Shown.{ShowsImage}
use Rattle.request_core.specs.Serving.{HasSent}
use Rattle.shared_store.specs.Logs.{IsAt, IsLogOf}
use Rattle.shared_store.specs.Orders.{KeepsImage, SpanRead}
use Rattle.shared_store.specs.laws.Trust.{all_right}

-- memory shows the image of the log after the history
pub has_sent : (opening : ℕ) (first : Image) (vouches : SpanRead → Type 0) (sure : Type 0) (kept : Mode) (trusted : Type 0) (mode : Mode) (image : Image) (order : OrderState) (request : Message) (client : Client)
    → IsLogOf opening first vouches sure kept trusted mode image → KeepsImage opening first vouches sure order → IsAt request client → HasSent trusted image order request client
has_sent opening first vouches sure kept trusted mode image order request client log keeps at = record {
  speaks = at.speaks;
  asks = at.asks;
  shows = λ trusts.
      subst (λ (i : Image). ShowsImage (apply_all order.history i) order.cache) (sym log.image_is)
      (keeps.is.shows (log.device trusts, all_right opening first vouches (log.right trusts) keeps.reads keeps.vouched));
}
