-- What an export answers the requests of a session, and the text of its replies ("Transmission" of NBD's proto.md).
use Rattle.std.specs.Prelude.{ℕ, ◌≡◌, ◌⊎◌, Bool, true, false, not, ◌&&◌, ◌==◌, nat_lt, bit_and, List, [], ◌∷◌, ◌++◌, Option, map}
use Rattle.std.specs.Io.KnownBytes.{Appends}
use Rattle.std.specs.List.{flat_map}
use Rattle.nbd_wire.specs.Reply.{IsAnswerTo, reply_text}
use Rattle.nbd_wire.specs.Request.{Message, payload_limit, write_type}
use Rattle.nbd_wire.specs.declared.error.Errno.TheVariants as errnos
use Rattle.nbd_wire.specs.declared.head.RequestHead.{RequestHead}
use Rattle.nbd_wire.specs.declared.message.Answer.TheVariants as answers
use Rattle.nbd_wire.specs.declared.message.Reply.{Reply}
use Rattle.nbd_wire.specs.declared.message.SessionFlags.{SessionFlags}

-- a request and its reply
pub record Exchange : Type 0 where
  pub request : Message
  pub reply : Reply

abbrev pub asked : List Exchange → List Message
asked exchanges = map (λ exchange. exchange.request) exchanges

abbrev pub answered : List Exchange → List Reply
answered exchanges = map (λ exchange. exchange.reply) exchanges

-- whether a READ asks for its bytes in one chunk
abbrev pub is_whole : RequestHead → Bool
is_whole head = not (bit_and head.flags 4 == 0)

abbrev pub exchange_text : SessionFlags → Exchange → List ℕ
exchange_text flags exchange = reply_text flags exchange.request.head.kind (is_whole exchange.request.head) exchange.reply

-- the replies to requests, one after the other
abbrev pub talk_text : SessionFlags → List Exchange → List ℕ
talk_text flags exchanges = flat_map (exchange_text flags) exchanges

-- a WRITE whose data were thrown away
abbrev pub is_thrown_away : RequestHead → Bool
is_thrown_away head = (head.kind == write_type) && nat_lt payload_limit head.length

abbrev pub refusal : RequestHead → Reply
refusal head = record { cookie = head.cookie; answer = answers.Refused errnos.Invalid }

-- A request got its reply, with its own cookie: one whose data were thrown away is refused as invalid and not handed over, and
-- any other is answered by a step that the export allows, which takes the pass from one state to another.
abbrev pub IsStep : {P : Type 0} → (P → Message → SessionFlags → P → Reply → Type 0) → SessionFlags → P → Exchange → P → Type 0
IsStep allows flags old exchange new =
    ((is_thrown_away exchange.request.head ≡ true) × (new ≡ old) × (exchange.reply ≡ refusal exchange.request.head))
    ⊎ ((is_thrown_away exchange.request.head ≡ false) × allows old exchange.request flags new exchange.reply
    × (exchange.reply.cookie ≡ exchange.request.head.cookie) × IsAnswerTo flags exchange.request.head.kind exchange.reply.answer)

-- one step for each of these requests, in their order
abbrev pub AreSteps : {P : Type 0} → (P → Message → SessionFlags → P → Reply → Type 0) → SessionFlags → P → List Exchange → P → Type 0
AreSteps allows flags old [] new = new ≡ old
AreSteps {P} allows flags old (exchange ∷ exchanges) new =
    (between : P) × IsStep allows flags old exchange between × AreSteps allows flags between exchanges new

-- The first of the requests had their steps, all of them at Ok, and of the text of the replies to these some first part was
-- written, at Ok all of it.
pub record Answers {P : Type 0} (allows : P → Message → SessionFlags → P → Reply → Type 0) (flags : SessionFlags) (old : P) (requests : List Message) (new : P) (output made : Option (List ℕ)) (is_whole : Bool) : Type 0 where
  pub exchanges : List Exchange
  pub unanswered : List Message
  pub all : requests ≡ asked exchanges ++ unanswered
  pub steps : AreSteps allows flags old exchanges new
  pub text : List ℕ
  pub unsent : List ℕ
  pub begins : talk_text flags exchanges ≡ text ++ unsent
  pub written : Appends output made text
  pub whole : is_whole ≡ true → (unanswered ≡ []) × (unsent ≡ [])
