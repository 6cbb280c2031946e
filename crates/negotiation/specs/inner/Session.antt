-- Definitions for contracts between functions of this crate, next to those of `Session`.
use Rattle.std.specs.Prelude.{◌≡◌, ◌⊎◌, ℕ, Option, Some, List, [], ◌++◌, length, ◌+◌, ◌-◌, ◌<◌, ◌≤◌, ◌∷◌}
use Rattle.std.specs.Io.KnownBytes.{Consumes, IsAtEnd}
use Rattle.nbd_wire.specs.Request.{Message}
use Rattle.option_wire.specs.Handshake.{greeting_bytes, client_flags_bytes}
use Rattle.option_wire.specs.Head.{option_head}
use Rattle.negotiation.specs.Answered.{Offer, Answered, answer_bytes}
use Rattle.negotiation.specs.declared.answer.Agreed.{Agreed}
use Rattle.negotiation.specs.declared.end.End.TheVariants.{NoMemory}
use Rattle.negotiation.specs.declared.stage.Talk.{Talk}
use Rattle.negotiation.specs.Dialog.{Standing, Turn, answers_text, in_flags, silent, IsAccepted, IsTurn, Leaves, LeavesFlags, agreed_with, broken, ended, in_head, in_requests, kept_limit, most_bytes}
use Rattle.negotiation.specs.Session.{SessionState, standing_of, HearsOn, end_of, IsOpen, IsSaid, IsBehind}
use Rattle.nbd_wire.specs.Stream.{fresh}
use Rattle.option_wire.specs.declared.handshake.ClientFlags.{ClientFlags}
use Rattle.negotiation.specs.declared.answer.Next.{Next}
use Rattle.negotiation.specs.declared.answer.Next.TheVariants as behind
use Rattle.negotiation.specs.declared.end.End.{End}
use Rattle.negotiation.specs.declared.stage.Stage.{Stage}
use Rattle.negotiation.specs.declared.stage.Stage.TheVariants as stages

-- how many bytes end what is read of a handshake, none where it isn't one
abbrev pub wanted_of : Stage → ℕ
wanted_of stages.Silent = 0
wanted_of (stages.Flags bytes) = 4 - length bytes.items
wanted_of (stages.Head bytes) = 16 - length bytes.items
wanted_of (stages.Data head bytes) = head.length - length bytes.items
wanted_of (stages.Discard option missing) = missing
wanted_of (stages.Requests reader) = 0
wanted_of stages.Ended = 0
wanted_of stages.Broken = 0
wanted_of stages.Exhausted = 0

-- what is read after an option
abbrev pub standing_behind : Next → Standing
standing_behind behind.Option = in_head []
standing_behind behind.Transmission = in_requests fresh
standing_behind behind.End = ended
standing_behind behind.Fault = broken

-- What a text that begins with an option comes to: it is whole, and answered, or this is left of it.
abbrev pub Takes : Agreed → Offer → List ℕ → List Turn → Agreed → Standing → Type 0
Takes agreed offer text [] new standing = (new ≡ agreed) × Leaves standing text
Takes agreed offer text (turn ∷ []) new standing =
    IsTurn agreed offer text turn × (new ≡ turn.answer.agreed) × (standing ≡ standing_behind turn.answer.next)
Takes agreed offer text (turn ∷ other ∷ turns) new standing = ⊥

-- any text of this kind was read, and the answer to the option, if it is whole, was written
pub record Step (agreed : Agreed) (offer : Offer) (IsText : List ℕ → Type 0) (before after : List ℕ) (talk : Talk) : Type 0 where
  pub turns : List Turn
  pub takes : (text : List ℕ) → IsText text → Takes agreed offer text turns talk.agreed (standing_of talk.stage)
  pub written : after ≡ before ++ answers_text turns

-- the first bytes of an option whose data come next
abbrev pub IsPart : ℕ → ℕ → List ℕ → List ℕ → Type 0
IsPart code size bytes text = text ≡ option_head code size ++ bytes

-- the same of an option whose data are thrown away, up to the last `missing` ones
abbrev pub IsLongPart : ℕ → ℕ → List ℕ → Type 0
IsLongPart code missing text =
    (sent : List ℕ) × (kept_limit < length sent + missing) × (length sent + missing ≤ most_bytes code)
    × (text ≡ option_head code (length sent + missing) ++ sent)

-- what comes of the client's flags
abbrev pub TakesFlags : Agreed → List ℕ → Agreed → Standing → Type 0
TakesFlags agreed text new standing =
    ((new ≡ agreed) × LeavesFlags standing text)
    ⊎ ((client : ClientFlags) × IsAccepted client × (text ≡ client_flags_bytes client) × (new ≡ agreed_with client agreed)
    × (standing ≡ in_head []))

-- a session that offers this export
abbrev pub state_of : Offer → Talk → SessionState
state_of offer talk = record { offer = offer; agreed = talk.agreed; standing = standing_of talk.stage }

-- an option was answered
pub record Settles (code : ℕ) (answer : Answered) (before after : List ℕ) (talk : Talk) : Type 0 where
  pub agreed : talk.agreed ≡ answer.agreed
  pub standing : standing_of talk.stage ≡ standing_behind answer.next
  pub written : after ≡ before ++ answer_bytes code answer

-- the text of an option with these data
abbrev pub IsData : ℕ → List ℕ → List ℕ → Type 0
IsData code content text = text ≡ option_head code (length content) ++ content

-- the greeting is written where nothing was said yet, and else nothing
abbrev pub Greets : Standing → Standing → List ℕ → List ℕ → Type 0
Greets silent new before after = (new ≡ in_flags []) × (after ≡ before ++ greeting_bytes)
Greets old new before after = (new ≡ old) × (after ≡ before)

-- these bytes of a handshake were read
pub record Advances (old : SessionState) (front before after : List ℕ) (new : SessionState) : Type 0 where
  pub turns : List Turn
  pub hears : HearsOn old front turns [] new
  pub written : after ≡ before ++ answers_text turns

-- What was left of the piece after the handshake was read, to its end but where memory ran out.
pub record Hands (old : Standing) (piece : List ℕ) (requests : List Message) (new : Standing) : Type 0 where
  pub first : List ℕ
  pub rest : List ℕ
  pub between : Standing
  pub parts : piece ≡ first ++ rest
  pub said : IsSaid between
  pub behind : IsBehind old → IsBehind between
  pub hears : (offer : Offer) (agreed : Agreed) → HearsOn (record { offer = offer; agreed = agreed; standing = old }) first [] requests
      (record { offer = offer; agreed = agreed; standing = between })
  pub whole : ((end_of new ≡ Some NoMemory) × ((requests ≡ []) ⊎ IsBehind between)) ⊎ ((rest ≡ []) × (new ≡ between))

-- this many bytes were read off a stream, as a piece after the handshake that ends no request
pub record HandsNone (old : Standing) (input left : Option (List ℕ)) (count : ℕ) (new : Standing) : Type 0 where
  pub piece : List ℕ
  pub len : length piece ≡ count
  pub read : Consumes input left piece
  pub hands : Hands old piece [] new
  pub was : IsBehind old
  pub said : IsSaid new
  pub going : IsOpen new
  pub end : count ≡ 0 → IsAtEnd left

-- some first part of the piece was read, and the answers to the options in it were written
pub record Runs (old : SessionState) (piece behind before after : List ℕ) (new : SessionState) : Type 0 where
  pub turns : List Turn
  pub taken : List ℕ
  pub parts : piece ≡ taken ++ behind
  pub hears : HearsOn old taken turns [] new
  pub written : after ≡ before ++ answers_text turns
