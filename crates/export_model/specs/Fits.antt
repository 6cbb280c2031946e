-- When the answers of a log that show an image, and the commands that its edits became, fit the order of commands.
use Rattle.std.specs.Prelude.{◌≡◌, ◌≢◌, ℕ, ◌<◌, ◌≤◌, true, Some, List, length, slice_get}
use Rattle.image_model.specs.Change.{Change}
use Rattle.image_model.specs.Edit.{becomes}
use Rattle.image_model.specs.Image.{Image}
use Rattle.nbd_wire.specs.Request.{Message}
use Rattle.nbd_wire.specs.declared.error.Errno.{Errno}
use Rattle.nbd_wire.specs.declared.message.Answer.{Answer}
use Rattle.nbd_wire.specs.declared.message.Answer.TheVariants.{Done, Refused}
use Rattle.export_model.specs.declared.event.Event.{Event}
use Rattle.export_model.specs.declared.event.Event.TheVariants.{Sent}
use Rattle.export_model.specs.Log.{IsAnswered, StandsAt, edit_asked, is_read, is_write}
use Rattle.export_model.specs.Shown.{shown_by}
use Rattle.export_model.specs.World.{image_after}

-- A READ or a BLOCK_STATUS that was sent at the place is answered, and not refused.
pub record IsShown (log : List Event) (place : ℕ) : Type 0 where
  pub connection : ℕ
  pub request : Message
  pub answer : ℕ
  pub outcome : Answer
  pub read : is_read request ≡ true
  pub given : (errno : Errno) → outcome ≢ Refused errno
  pub answered : IsAnswered log connection place request answer outcome

-- For each such place there is a count of first commands, chosen once for all answers of the log, such that its answer is what
-- the image after these shows.
pub record ReadsFit (log : List Event) (order : List Change) (paired shown : ℕ → ℕ) (image : Image) : Type 0 where
  pub shows : (place : ℕ) (is : IsShown log place) → is.outcome ≡ shown_by (image_after order (shown place) image) is.request.head
  pub within : (place : ℕ) → shown place ≤ length order
  -- each command that was answered Ok before the request was sent is among them
  pub after : (place : ℕ) → IsShown log place → (k connection answer : ℕ) (request : Message) → k < length order
      → IsAnswered log connection (paired k) request answer Done → answer < place → k < shown place
  -- each of them was sent before the answer
  pub before : (place : ℕ) (is : IsShown log place) (k : ℕ) → k < shown place → paired k < is.answer
  -- the count never falls from an answer to a request that is sent later
  pub rising : (place later : ℕ) (is : IsShown log place) → IsShown log later → is.answer < later → shown place ≤ shown later

-- A command is what the edit of the request that was sent at the place becomes over an image.
pub record IsEdited (log : List Event) (place : ℕ) (command : Change) (image : Image) : Type 0 where
  pub connection : ℕ
  pub request : Message
  pub sent : StandsAt log place (Sent connection request)
  pub write : is_write request ≡ true
  pub own : becomes (edit_asked request) image ≡ command

-- Each command of the order is so over the image after those before it.
abbrev pub EditsFit : List Event → List Change → (ℕ → ℕ) → Image → Type 0
EditsFit log order paired image = (k : ℕ) (command : Change) → slice_get order k ≡ Some command
    → IsEdited log (paired k) command (image_after order k image)
