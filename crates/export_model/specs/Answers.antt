-- which answer a connection may be given, by what it is at
use Rattle.std.specs.Prelude.{◌≡◌, ◌≢◌, ◌⊎◌, ℕ, ◌≤◌, true, List}
use Rattle.image_model.specs.Change.{Change}
use Rattle.image_model.specs.Image.{Image, apply_all}
use Rattle.nbd_wire.specs.Request.{Message}
use Rattle.nbd_wire.specs.declared.error.Errno.{Errno}
use Rattle.nbd_wire.specs.declared.error.Errno.TheVariants.{Io}
use Rattle.nbd_wire.specs.declared.message.Answer.{Answer}
use Rattle.nbd_wire.specs.declared.message.Answer.TheVariants.{Done, Refused}
use Rattle.export_model.specs.declared.connection.Connection.{Connection}
use Rattle.export_model.specs.declared.connection.Connection.TheVariants.{Idle, Requested, Waiting, Ready, Closed}
use Rattle.export_model.specs.Log.{is_read}
use Rattle.export_model.specs.Shown.{shown_by}

abbrev pub IsGiven : Answer → Type 0
IsGiven outcome = (errno : Errno) → outcome ≢ Refused errno

-- a READ or a BLOCK_STATUS is answered with what the image shows after a beginning of the order, where the device is trusted
pub record IsReadOf (trusted : Type 0) (image : Image) (seen : List Change) (request : Message) (outcome : Answer) : Type 0 where
  pub read : is_read request ≡ true
  pub given : IsGiven outcome
  pub no_done : outcome ≢ Done
  pub right : trusted → outcome ≡ shown_by (apply_all seen image) request.head

-- An open request may be refused, or shown. A client that waits is told that its request is done once the number is durable, or that the
-- device failed; a client that is due an Ok is told that. `durable` is a number that is known to be durable, and `seen` a beginning of the order.
abbrev pub MayAnswer : Type 0 → Image → ℕ → List Change → Connection → Answer → Type 0
MayAnswer trusted image durable seen Idle outcome = ⊥
MayAnswer trusted image durable seen (Requested request) outcome = ((errno : Errno) × (outcome ≡ Refused errno)) ⊎ IsReadOf trusted image seen request outcome
MayAnswer trusted image durable seen (Waiting number) outcome = ((outcome ≡ Done) × (number ≤ durable)) ⊎ (outcome ≡ Refused Io)
MayAnswer trusted image durable seen (Ready due) outcome = (due ≡ Done) × (outcome ≡ Done)
MayAnswer trusted image durable seen Closed outcome = ⊥
