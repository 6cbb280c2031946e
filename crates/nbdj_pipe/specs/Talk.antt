-- What a connection and its export say to one another, in a log and as bytes.
use Rattle.std.specs.Prelude.{ℕ, ◌≡◌, ◌≢◌, false, Option, Some, None, Result, Err, List, [], ◌∷◌, ◌++◌, length}
use Rattle.std.specs.List.{AllByRecursion}
use Rattle.image_model.specs.declared.geometry.Geometry.{Geometry}
use Rattle.nbd_wire.specs.Errno.{errno_number}
use Rattle.nbd_wire.specs.Head.{simple_reply}
use Rattle.nbd_wire.specs.Request.{Message}
use Rattle.nbd_wire.specs.declared.error.Errno.{Errno}
use Rattle.nbd_wire.specs.declared.head.RequestHead.{RequestHead}
use Rattle.nbd_wire.specs.declared.message.Answer.{Answer}
use Rattle.nbd_wire.specs.declared.message.Answer.TheVariants.{Done, Refused, Bytes, States}
use Rattle.nbd_wire.specs.declared.message.Run.{Run}
use Rattle.nbd_wire.specs.declared.message.SessionFlags.{SessionFlags}
use Rattle.export_model.specs.declared.action.Action.{Action}
use Rattle.export_model.specs.declared.event.Event.{Event}
use Rattle.export_model.specs.declared.event.Event.TheVariants.{Sent, Answered, Numbered, Took, Skipped, Failed}
use Rattle.export_model.specs.Verdict.{verdict}

-- what a log says of requests and answers: the events that send or answer one
abbrev pub spoken : List Event → List Event
spoken [] = []
spoken (Sent connection request ∷ log) = Sent connection request ∷ spoken log
spoken (Answered connection answer ∷ log) = Answered connection answer ∷ spoken log
spoken (Numbered connection number ∷ log) = spoken log
spoken (Took ∷ log) = spoken log
spoken (Skipped ∷ log) = spoken log
spoken (Failed fault ∷ log) = spoken log

-- a request and its answer
pub record Exchange : Type 0 where
  pub request : Message
  pub answer : Answer

-- requests of the one connection there is, each answered before the next is sent
abbrev pub talk : List Exchange → List Event
talk [] = []
talk (exchange ∷ exchanges) = Sent 0 exchange.request ∷ Answered 0 exchange.answer ∷ talk exchanges

-- the same, and at the end perhaps a request that has no answer: a DISC, or one that could not be served
abbrev pub talk_to : List Exchange → Option Message → List Event
talk_to exchanges None = talk exchanges
talk_to exchanges (Some request) = talk exchanges ++ Sent 0 request ∷ []

-- the requests
abbrev pub asked : List Exchange → List Message
asked [] = []
asked (exchange ∷ exchanges) = exchange.request ∷ asked exchanges

-- the number of an answer's error on the wire, 0 for none
abbrev pub error_of : Answer → ℕ
error_of Done = 0
error_of (Refused errno) = errno_number errno
error_of (Bytes read) = 0
error_of (States runs) = 0

-- the bytes that an answer hands over
abbrev pub data_of : Answer → List ℕ
data_of Done = []
data_of (Refused errno) = []
data_of (Bytes read) = read.bytes
data_of (States runs) = []

-- an answer as a simple reply
unfoldable pub reply_to : ℕ → Answer → List ℕ
reply_to cookie answer = simple_reply (error_of answer) cookie (data_of answer)

-- the text of the replies, one to each request in their order
abbrev pub dialog : List Exchange → List ℕ
dialog [] = []
dialog (exchange ∷ exchanges) = reply_to exchange.request.head.cookie exchange.answer ++ dialog exchanges

-- what both sides of a connection without a handshake have agreed on
abbrev pub plain : SessionFlags
plain = record { structured = false; context = false }

-- the verdict on a request, without its rules
unfoldable pub verdict_on : RequestHead → Geometry → SessionFlags → Result Action Errno
verdict_on head geometry flags = verdict head geometry flags

-- What a request may be answered: to a READ as many bytes as it asked for, from where it asked for them, states to a
-- BLOCK_STATUS, to any other nothing more than that it is done, and an error to each.
abbrev pub IsAnswerOf : RequestHead → Answer → Type 0
IsAnswerOf head Done = (head.kind ≢ 0) × (head.kind ≢ 7)
IsAnswerOf head (Refused errno) = Unit {0}
IsAnswerOf head (Bytes read) = (head.kind ≡ 0) × (read.offset ≡ head.offset) × (length read.bytes ≡ head.length)
IsAnswerOf head (States runs) = head.kind ≡ 7

-- A request that isn't a DISC, and its answer: one that the rules of judgement refuse has that error, as each BLOCK_STATUS has,
-- since no context was agreed on.
pub record IsAnswered (geometry : Geometry) (exchange : Exchange) : Type 0 where
  pub no_disc : exchange.request.head.kind ≢ 2
  pub fits : IsAnswerOf exchange.request.head exchange.answer
  pub stateless : (runs : List Run) → exchange.answer ≢ States runs
  pub judged : (errno : Errno) → (let result : Result Action Errno = Err errno in verdict_on exchange.request.head geometry plain ≡ result)
      → exchange.answer ≡ Refused errno

abbrev pub AreAnswered : Geometry → List Exchange → Type 0
AreAnswered geometry exchanges = AllByRecursion (IsAnswered geometry) exchanges
