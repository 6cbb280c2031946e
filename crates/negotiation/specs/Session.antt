-- What a session holds, and what a piece of its input comes to.
use Rattle.std.specs.Prelude.{◌≡◌, ◌⊎◌, ℕ, ◌+◌, ◌<◌, ◌≤◌, Option, Some, None, List, [], ◌++◌, length, Result, Ok, Err}
use Rattle.std.specs.Global.{Vec}
use Rattle.std.specs.Io.KnownBytes.{Consumes, IsAtEnd}
use Rattle.std.specs.Option.{option_map}
use Rattle.nbd_wire.specs.Request.{Message}
use Rattle.nbd_wire.specs.Stream.{held, end_of as end_of_requests, room_of as room_of_reader}
use Rattle.option_wire.specs.Handshake.{greeting_bytes}
use Rattle.negotiation.specs.Answered.{Offer}
use Rattle.negotiation.specs.declared.answer.Agreed.{Agreed}
use Rattle.negotiation.specs.declared.answer.Next.TheVariants as behind
use Rattle.negotiation.specs.declared.end.End.{End}
use Rattle.negotiation.specs.declared.end.End.TheVariants.{NoMemory, ProtocolEnd}
use Rattle.negotiation.specs.declared.stage.Stage.{Stage}
use Rattle.negotiation.specs.declared.stage.Stage.TheVariants as stages
use Rattle.negotiation.specs.Ends.{end_for}
use Rattle.negotiation.specs.Dialog.{Hears, Outcome, Standing, Turn, answers_text, broken, ended, exhausted, in_discard, in_flags, in_head, in_option, in_requests, kept_limit, silent}

-- the export that is offered, what is agreed on, and what was read last
pub record SessionState : Type 0 where
  pub offer : Offer
  pub agreed : Agreed
  pub standing : Standing

-- what came of the stream, with the requests that were handed out
abbrev pub outcome_of : List Message → SessionState → Outcome
outcome_of requests session = record { requests = requests; agreed = session.agreed; standing = session.standing }

-- what a stage of a session is
abbrev pub standing_of : Stage → Standing
standing_of stages.Silent = silent
standing_of (stages.Flags bytes) = in_flags bytes.items
standing_of (stages.Head bytes) = in_head bytes.items
standing_of (stages.Data head bytes) = in_option head.option head.length bytes.items
standing_of (stages.Discard option missing) = in_discard option missing
standing_of (stages.Requests reader) = in_requests reader
standing_of stages.Ended = ended
standing_of stages.Broken = broken
standing_of stages.Exhausted = exhausted

-- After the greeting: something is always missing.
abbrev pub IsGreeted : Stage → Type 0
IsGreeted stages.Silent = ⊥
IsGreeted (stages.Flags bytes) = length bytes.items < 4
IsGreeted (stages.Head bytes) = length bytes.items < 16
IsGreeted (stages.Data head bytes) = (length bytes.items < head.length) × (head.length ≤ kept_limit)
IsGreeted (stages.Discard option missing) = 0 < missing
IsGreeted (stages.Requests reader) = Unit {0}
IsGreeted stages.Ended = Unit {0}
IsGreeted stages.Broken = Unit {0}
IsGreeted stages.Exhausted = Unit {0}

abbrev pub IsStage : Stage → Type 0
IsStage stages.Silent = Unit {0}
IsStage stage = IsGreeted stage

-- A session that had read any stream up to here has read the stream and the piece, with these further options and requests.
abbrev pub HearsOn : SessionState → List ℕ → List Turn → List Message → SessionState → Type 0
HearsOn old piece turns requests new =
    (stream : List ℕ) (before : List Turn) (asked : List Message) → Hears old.offer stream before (outcome_of asked old)
    → Hears old.offer (stream ++ piece) (before ++ turns) (outcome_of (asked ++ requests) new)

-- the greeting is due once anything is said
abbrev pub greeting_due : Standing → Standing → List ℕ
greeting_due silent silent = []
greeting_due silent new = greeting_bytes
greeting_due old new = []

-- why a session hands out nothing more
abbrev pub end_of : Standing → Option End
end_of silent = None
end_of (in_flags bytes) = None
end_of (in_head bytes) = None
end_of (in_option code size bytes) = None
end_of (in_discard code missing) = None
end_of (in_requests reader) = option_map end_for (end_of_requests reader)
end_of ended = None
end_of broken = Some ProtocolEnd
end_of exhausted = Some NoMemory

-- neither its client nor what it sent has ended the session, and there was memory for it
abbrev pub IsOpen : Standing → Type 0
IsOpen standing = (end_of standing ≡ None) × (standing ≡ ended → ⊥)

-- something was said
abbrev pub IsSaid : Standing → Type 0
IsSaid silent = ⊥
IsSaid standing = Unit {0}

-- the handshake is over
abbrev pub IsBehind : Standing → Type 0
IsBehind silent = ⊥
IsBehind (in_flags bytes) = ⊥
IsBehind (in_head bytes) = ⊥
IsBehind (in_option code size bytes) = ⊥
IsBehind (in_discard code missing) = ⊥
IsBehind (in_requests reader) = Unit {0}
IsBehind ended = Unit {0}
IsBehind broken = Unit {0}
IsBehind exhausted = Unit {0}

-- A piece was read, to its end but where memory ran out, and this was written for it: the greeting, where it is due, and the
-- answers to the options that it ends; none of it after the handshake.
pub record Feeds (old : SessionState) (piece before after : List ℕ) (requests : List Message) (new : SessionState) : Type 0 where
  pub turns : List Turn
  pub first : List ℕ
  pub rest : List ℕ
  pub between : SessionState
  pub parts : piece ≡ first ++ rest
  pub hears : HearsOn old first turns requests between
  pub written : after ≡ before ++ (greeting_due old.standing between.standing ++ answers_text turns)
  pub said : IsSaid old.standing → IsSaid between.standing
  pub behind : IsBehind old.standing → (turns ≡ []) × (between.agreed ≡ old.agreed) × IsBehind between.standing
  pub whole : ((end_of new.standing ≡ Some NoMemory) × ((requests ≡ []) ⊎ ((new.agreed ≡ between.agreed) × IsBehind between.standing))) ⊎ ((rest ≡ []) × (new ≡ between))

-- how many bytes are still to come of a request's data that are kept
abbrev pub room_of : Standing → ℕ
room_of silent = 0
room_of (in_flags bytes) = 0
room_of (in_head bytes) = 0
room_of (in_option code size bytes) = 0
room_of (in_discard code missing) = 0
room_of (in_requests reader) = room_of_reader reader
room_of ended = 0
room_of broken = 0
room_of exhausted = 0

-- This many bytes were read off a stream as a piece that was fed; it ends no request, and nothing is due for it. None comes only at
-- the end of the stream.
pub record Fills (old : SessionState) (input left : Option (List ℕ)) (count : ℕ) (new : SessionState) : Type 0 where
  pub piece : List ℕ
  pub len : length piece ≡ count
  pub read : Consumes input left piece
  pub feeds : Feeds old piece [] [] [] new
  pub offer : new.offer ≡ old.offer
  pub said : IsSaid new.standing
  pub going : IsOpen new.standing
  pub end : count ≡ 0 → IsAtEnd left

-- the requests that are handed out
abbrev pub handed : Result (Vec Message) End → List Message
handed (Ok requests) = requests.items
handed (Err fault) = []

-- how many bytes are held
abbrev pub held_by : Standing → ℕ
held_by silent = 0
held_by (in_flags bytes) = length bytes
held_by (in_head bytes) = length bytes
held_by (in_option code size bytes) = length bytes
held_by (in_discard code missing) = 0
held_by (in_requests reader) = held reader
held_by ended = 0
held_by broken = 0
held_by exhausted = 0
