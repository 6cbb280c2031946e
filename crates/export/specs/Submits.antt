-- what a pass knows once a request was served for it, and once it was answered
use Rattle.std.specs.Prelude.{ℕ, ◌≡◌, ◌≢◌, ◌+◌, ◌<◌, ◌≤◌, ◌⊎◌, true, false, List, [], ◌∷◌, ◌++◌, length, Some, Result, Ok, Err}
use mathlib.Core.List.{IsPrefix}
use Rattle.image_model.specs.Change.{Change}
use Rattle.image_model.specs.Edit.{becomes}
use Rattle.image_model.specs.Image.{Image, apply_all}
use Rattle.marks.specs.Known.{PassState, known}
use Rattle.nbd_wire.specs.Request.{Message}
use Rattle.nbd_wire.specs.declared.error.Errno.{Errno}
use Rattle.nbd_wire.specs.declared.error.Errno.TheVariants.{Io, NoMemory, NoSpace}
use Rattle.nbd_wire.specs.declared.message.Answer.{Answer}
use Rattle.nbd_wire.specs.declared.message.Answer.TheVariants.{Done, Refused}
use Rattle.export_model.specs.Verdict.{verdict}
use Rattle.export_model.specs.declared.event.Event.TheVariants.{Answered, Sent}
use Rattle.image_model.specs.declared.geometry.Geometry.{Geometry}
use Rattle.nbd_wire.specs.Reply.{IsAnswerTo}
use Rattle.nbd_wire.specs.declared.message.Reply.{Reply}
use Rattle.nbd_wire.specs.declared.message.SessionFlags.{SessionFlags}
use Rattle.shared_store.specs.Answers.{TellsImage}
use Rattle.export_model.specs.Log.{edit_asked, flush_waits, is_flush, is_write, waits_for_store}
use Rattle.export_model.specs.Shown.{shown_by}
use Rattle.export_model.specs.declared.action.Action.{Action}
use Rattle.export_model.specs.declared.action.Action.TheVariants.{End, Serve}
use Rattle.export_model.specs.declared.step.Mode.{Mode}

-- The pass has one command more of its own, which is what the request's edit becomes over an image, under a number above all that it
-- knew before. In the history that it then knows that stands at its number, after all that it knew before and commands of others;
-- and it is what the edit becomes over the image of the opening after just these, as surely as what memory shows of an image.
pub record IsAccepted (opening : ℕ) (first : Image) (Sure : Type 0 → Type 0) (request : Message) (number : ℕ) (old new : PassState) : Type 0 where
  pub above : known old < number
  pub image : Image
  pub own : new.own ≡ record { count = old.own.count + 1; last = Some (record { number = number; change = becomes (edit_asked request) image }) }
  pub earlier : List Change
  pub knew : IsPrefix old.history earlier
  pub place : number ≡ opening + length earlier + 1
  pub within : IsPrefix (earlier ++ becomes (edit_asked request) image ∷ []) new.history
  pub over : Sure (becomes (edit_asked request) image ≡ becomes (edit_asked request) (apply_all earlier first))

-- All of the history that a pass knew is durable, as it then knows.
pub record IsCovered (opening : ℕ) (old new : PassState) : Type 0 where
  pub covered : List Change
  pub knew : IsPrefix old.history covered
  pub within : IsPrefix covered new.history
  pub durable : opening + length covered ≤ new.durable

-- A write command that is answered Ok has a number above all that its pass knew, and it is durable where the answer waits for that.
-- A FLUSH that is answered Ok: all that its pass knew before is ordered, and durable where a FLUSH waits, whichever connection's it
-- was. An error other than EIO leaves the pass as it was, but for the history that it saw as its client sent the request. Whatever the answer is, the pass has the commands that it had or the request's more, the history
-- that it knows then begins with the one that it knew, and all is durable still that it knew to be.
pub record IsSubmitted (opening : ℕ) (first : Image) (Sure : Type 0 → Type 0) (request : Message) (kept : Mode) (old new : PassState) (answer : Answer) : Type 0 where
  pub knew : IsPrefix old.history new.history
  pub lasts : old.durable ≤ new.durable
  pub written : answer ≡ Done → is_write request ≡ true → (number : ℕ) × IsAccepted opening first Sure request number old new × (waits_for_store kept request ≡ true → number ≤ new.durable)
  pub ordered : answer ≡ Done → is_flush request ≡ true → known old ≤ opening + length new.history
  pub flushed : answer ≡ Done → is_flush request ≡ true → flush_waits kept ≡ true → known old ≤ new.durable
  pub covered : answer ≡ Done → is_flush request ≡ true → flush_waits kept ≡ true → IsCovered opening old new
  pub refused : (errno : Errno) → answer ≡ Refused errno → errno ≢ Io → new ≡ record old { history = new.history; accepted = new.accepted; client = new.client }
  pub own : (new.own ≡ old.own) ⊎ ((is_write request ≡ true) × (number : ℕ) × IsAccepted opening first Sure request number old new)

-- The answers to a request on which this is the verdict: its error; else EIO, an error of want that its type may meet, Done to a
-- FLUSH or a write command, and to a READ or a BLOCK_STATUS what some image shows in the range that was asked for.
abbrev pub IsJudged : Result Action Errno → Message → Answer → Type 0
IsJudged (Ok End) request answer = ⊥
IsJudged (Err errno) request answer = answer ≡ Refused errno
IsJudged (Ok Serve) request answer =
    (answer ≡ Refused Io)
    ⊎ ((is_flush request ≡ false) × (answer ≡ Refused NoMemory))
    ⊎ ((is_flush request ≡ false) × (request.head.kind ≢ 0) × (request.head.kind ≢ 7) × (answer ≡ Refused NoSpace))
    ⊎ ((request.head.kind ≢ 0) × (request.head.kind ≢ 7) × (answer ≡ Done))
    ⊎ (((request.head.kind ≡ 0) ⊎ (request.head.kind ≡ 7)) × (image : Image) × (answer ≡ shown_by image request.head))

-- The end of a wait for all that was accepted: Ok once all that the pass knew before is durable, or EIO. The pass has no further
-- command.
pub record IsFlushAnswered (old new : PassState) (answer : Answer) : Type 0 where
  pub answered : (answer ≡ Done) ⊎ (answer ≡ Refused Io)
  pub done : answer ≡ Done → known old ≤ new.durable
  pub own : new.own ≡ old.own
  pub knew : IsPrefix old.history new.history
  pub lasts : old.durable ≤ new.durable

-- A request of a pass got this reply. It is one that the rules allow for the request. What its client sent and was answered
-- grows by the request and its answer alone.
pub record IsReplied (opening : ℕ) (first : Image) (Sure : Type 0 → Type 0) (request : Message) (kept : Mode) (geometry : Geometry) (flags : SessionFlags) (old new : PassState) (reply : Reply) : Type 0 where
  pub cookie : reply.cookie ≡ request.head.cookie
  pub submitted : IsSubmitted opening first Sure request kept old new reply.answer
  pub kind : IsAnswerTo flags request.head.kind reply.answer
  pub judged : IsJudged (verdict request.head geometry flags) request reply.answer
  pub tells : Sure (TellsImage (apply_all new.history first) request.head reply.answer)
  pub by : new.client.by ≡ old.client.by
  pub calls : new.client.mine ≡ old.client.mine ++ Sent old.client.by request ∷ Answered old.client.by reply.answer ∷ []
