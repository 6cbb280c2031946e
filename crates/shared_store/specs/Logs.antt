-- What a board's log says of an order, and what a client asks of the order.
use Rattle.std.specs.Prelude.{ℕ, ◌≡◌, true}
use Rattle.export_model.specs.declared.connection.Connection.TheVariants.{Requested}
use Rattle.export_model.specs.declared.step.Mode.{Mode}
use Rattle.image_model.specs.Image.{Image}
use Rattle.marks.specs.declared.view.Client.{Client}
use Rattle.nbd_wire.specs.Request.{Message}
use Rattle.shared_store.specs.Orders.{IsRight, SpanRead}

-- The log is of this mode and of the image of the opening. To trust the log is to trust the device, and that each read without a lock
-- is right that a second handle has vouched for.
pub record IsLogOf (opening : ℕ) (first : Image) (vouches : SpanRead → Type 0) (sure : Type 0) (kept : Mode) (trusted : Type 0) (mode : Mode) (image : Image) : Type 0 where
  pub mode_is : mode ≡ kept
  pub image_is : image ≡ first
  pub device : trusted → sure
  pub right : trusted → (read : SpanRead) → ∥ vouches read ∥₁ → IsRight opening first read

-- a client has sent this request, and has no answer yet
pub record IsAt (request : Message) (client : Client) : Type 0 where
  pub speaks : client.speaks ≡ true
  pub asks : client.state ≡ Requested request
