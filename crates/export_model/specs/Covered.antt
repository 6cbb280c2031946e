-- which commands a log says are durable
use Rattle.std.specs.Prelude.{◌≡◌, ◌⊎◌, ℕ, ◌<◌, true, List}
use Rattle.nbd_wire.specs.Request.{Message}
use Rattle.export_model.specs.declared.event.Event.{Event}
use Rattle.nbd_wire.specs.declared.message.Answer.TheVariants.{Done}
use Rattle.export_model.specs.declared.step.Mode.{Mode}
use Rattle.export_model.specs.Log.{IsAnswered, is_write, is_flush, flush_waits, waits_for_store}
use Rattle.export_model.specs.World.{World}

-- a write command that was sent at the place and is answered Ok
pub record IsConfirmed (log : List Event) (place : ℕ) : Type 0 where
  pub connection : ℕ
  pub request : Message
  pub answer : ℕ
  pub write : is_write request ≡ true
  pub answered : IsAnswered log connection place request answer Done

-- It was answered before a FLUSH was sent that is answered Ok, on its own or on another connection, and the mode is one in which a
-- FLUSH waits.
pub record IsFlushed (mode : Mode) (log : List Event) (place : ℕ) : Type 0 where
  pub confirmed : IsConfirmed log place
  pub waits : flush_waits mode ≡ true
  pub connection : ℕ
  pub from : ℕ
  pub request : Message
  pub answer : ℕ
  pub flush : is_flush request ≡ true
  pub later : confirmed.answer < from
  pub answered : IsAnswered log connection from request answer Done

-- It has FUA and the mode is writeback, or the mode is writethrough.
pub record IsForced (mode : Mode) (log : List Event) (place : ℕ) : Type 0 where
  pub confirmed : IsConfirmed log place
  pub waits : waits_for_store mode confirmed.request ≡ true

-- In ordered it is neither, whatever the log.
abbrev pub IsCovered : Mode → List Event → ℕ → Type 0
IsCovered mode log place = IsFlushed mode log place ⊎ IsForced mode log place

-- each covered command is among the first `count` of the order
abbrev pub Covers : World → ℕ → Type 0
Covers world count =
    (place : ℕ) → IsCovered world.stage.setting.mode world.log place → (k : ℕ) × (k < count) × (world.paired k ≡ place)
