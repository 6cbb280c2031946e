-- Definitions for contracts between functions of this crate, next to those of `Submits`.
use Rattle.std.specs.Prelude.{ℕ, ◌≡◌, ◌≢◌, ◌+◌, ◌≤◌, ◌⊎◌, Bool, true, false, List, length, Ok}
use mathlib.Core.List.{IsPrefix}
use Rattle.image_model.specs.Change.{Change}
use Rattle.image_model.specs.Image.{Image}
use Rattle.image_model.specs.declared.geometry.Geometry.{Geometry}
use Rattle.marks.specs.Known.{PassState, known}
use Rattle.nbd_wire.specs.Reply.{IsAnswerTo}
use Rattle.nbd_wire.specs.Request.{Message}
use Rattle.nbd_wire.specs.declared.error.Errno.{Errno}
use Rattle.nbd_wire.specs.declared.error.Errno.TheVariants.{Io}
use Rattle.nbd_wire.specs.declared.message.Answer.{Answer}
use Rattle.nbd_wire.specs.declared.message.Answer.TheVariants.{Bytes, Done, Refused, States}
use Rattle.nbd_wire.specs.declared.message.SessionFlags.{SessionFlags}
use Rattle.request_core.specs.Serving.{ready_for}
use Rattle.request_core.specs.declared.serving.Served.{Served}
use Rattle.request_core.specs.declared.serving.Served.TheVariants as served
use Rattle.export_model.specs.Answers.{MayAnswer}
use Rattle.export_model.specs.Log.{is_flush, is_write}
use Rattle.export_model.specs.Verdict.{verdict}
use Rattle.export_model.specs.declared.action.Action.TheVariants.{Serve}
use Rattle.export_model.specs.declared.connection.Connection.TheVariants.{Waiting}
use Rattle.export_model.specs.declared.step.Mode.{Mode}
use Rattle.export.specs.Submits.{IsAccepted, IsSubmitted, IsJudged}

-- What a request comes to when it is served: it is answered, or waits for a number, or has no room and comes back.
abbrev pub IsServedFor : ℕ → Image → (Type 0 → Type 0) → Message → Mode → PassState → PassState → Served → Type 0
IsServedFor opening first Sure request kept old new (served.Ready reply) = IsSubmitted opening first Sure request kept old new reply.answer
IsServedFor opening first Sure request kept old new (served.Wait number) =
    (is_flush request ≡ true → (known old ≤ number) × (new.own ≡ old.own) × IsPrefix old.history new.history × (number ≡ opening + length new.history))
    × (is_flush request ≡ false → (is_write request ≡ true) × IsAccepted opening first Sure request number old new)
    × (old.durable ≤ new.durable)
IsServedFor opening first Sure request kept old new (served.NoRoom back) = (new ≡ old) × (back ≡ request)

-- What a client is at once its request was served: nothing was logged of it, and where there is a log it may be given the answer, or
-- waits for the number.
abbrev pub IsClientFor : Type 0 → Type 0 → Image → PassState → PassState → Served → Type 0
IsClientFor logs trusted image old new (served.Ready reply) =
    (new.client ≡ record old.client { state = new.client.state }) × (logs → MayAnswer trusted image new.durable new.history new.client.state reply.answer)
IsClientFor logs trusted image old new (served.Wait number) = (new.client ≡ record old.client { state = new.client.state }) × (logs → new.client.state ≡ Waiting number)
IsClientFor logs trusted image old new (served.NoRoom back) = Unit {0}

-- whether bytes or states were answered, which are an image's
abbrev pub is_of_image : Answer → Bool
is_of_image Done = false
is_of_image (Refused errno) = false
is_of_image (Bytes read) = true
is_of_image (States runs) = true

abbrev pub serves_image : Served → Bool
serves_image (served.Ready reply) = is_of_image reply.answer
serves_image (served.Wait number) = false
serves_image (served.NoRoom back) = false

-- If an image was served, the pass is shown the whole history, whose last number is the mark, and what it knew before is a prefix
-- of that. Otherwise the pass is as it was.
pub record IsShownFor (history : List Change) (mark : ℕ) (served : Served) (old new : PassState) : Type 0 where
  pub knew : IsPrefix old.history new.history
  pub shown : serves_image served ≡ true → new ≡ record old { history = history; accepted = mark }
  pub kept : serves_image served ≡ false → new ≡ old

-- What waits for a number passed judgement, and is a FLUSH or a write command.
pub record IsWaiting (geometry : Geometry) (flags : SessionFlags) (request : Message) : Type 0 where
  pub passes : verdict request.head geometry flags ≡ Ok Serve
  pub reads_none : request.head.kind ≢ 0
  pub tells_none : request.head.kind ≢ 7

-- A request that is answered has an answer of its type which the verdict on it allows, and one that waits may be answered Done.
abbrev pub FitsServed : Geometry → SessionFlags → Message → Served → Type 0
FitsServed geometry flags request (served.Ready reply) = IsAnswerTo flags request.head.kind reply.answer × IsJudged (verdict request.head geometry flags) request reply.answer
FitsServed geometry flags request (served.Wait number) = IsWaiting geometry flags request
FitsServed geometry flags request (served.NoRoom back) = Unit {0}

-- A request of which nothing was done is answered with an error that the verdict on it allows.
pub record IsUnserved (geometry : Geometry) (flags : SessionFlags) (request : Message) (served : Served) : Type 0 where
  pub errno : Errno
  pub answer : served ≡ ready_for request.head.cookie (Refused errno)
  pub judged : IsJudged (verdict request.head geometry flags) request (Refused errno)

-- The end of a wait for a number: Ok once it is durable, or EIO.
pub record IsWaitedFor (number : ℕ) (old new : PassState) (answer : Answer) : Type 0 where
  pub answered : (answer ≡ Done) ⊎ (answer ≡ Refused Io)
  pub done : answer ≡ Done → number ≤ new.durable
  pub own : new.own ≡ old.own
  pub client : new.client ≡ old.client
  pub knew : IsPrefix old.history new.history
  pub lasts : old.durable ≤ new.durable
