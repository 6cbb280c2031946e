-- What a session reads, from the first byte of a connection on, and the text that it owes the handshake ("Fixed newstyle
-- negotiation" of NBD's proto.md; docs/FORMATS.md, "Handshake").
use Rattle.std.specs.Prelude.{◌≡◌, ◌≢◌, ◌⊎◌, ℕ, ◌+◌, ◌<◌, ◌≤◌, ◌^◌, Bool, true, false, ◌==◌, if◌then◌else◌, List, [], ◌∷◌, ◌++◌, length, take}
use Rattle.std.specs.List.{before_first, flat_map, list_any}
use Rattle.nbd_wire.specs.Request.{Message}
use Rattle.nbd_wire.specs.Stream.{Begins, Reader, Reads, reading, starved}
use Rattle.option_wire.specs.Handshake.{client_bits, client_flags_bytes, greeting_bytes, omits_zeroes}
use Rattle.option_wire.specs.Head.{option_head, option_magic}
use Rattle.option_wire.specs.declared.handshake.ClientFlags.{ClientFlags}
use Rattle.option_wire.specs.declared.reply.OptionError.TheVariants as errors
use Rattle.negotiation.specs.Answered.{Offer, Answered, IsAnswered, answer_bytes, refusal_of}
use Rattle.negotiation.specs.declared.answer.Agreed.{Agreed}
use Rattle.negotiation.specs.declared.answer.Next.{Next}
use Rattle.negotiation.specs.declared.answer.Next.TheVariants as behind

-- the most bytes of an option's data that are kept, and the most that are read
abbrev pub kept_limit : ℕ
kept_limit = 65536

abbrev pub read_limit : ℕ
read_limit = 33554432

-- the most bytes of data that an option of this number may have; the name of an EXPORT_NAME has to be kept
abbrev pub most_bytes : ℕ → ℕ
most_bytes code = if code == 1 then kept_limit else read_limit

-- an option and its answer
pub record Turn : Type 0 where
  pub code : ℕ
  pub answer : Answered

-- data that are too long to be kept are thrown away, and refused
abbrev pub IsTold : Agreed → Offer → ℕ → List ℕ → Answered → Type 0
IsTold agreed offer code content answer =
    ((length content ≤ kept_limit) × IsAnswered agreed offer code content answer)
    ⊎ ((kept_limit < length content) × (answer ≡ refusal_of agreed code errors.TooBig))

-- these bytes are an option, and this is its answer in a session that has agreed on so much, that offers this export
pub record IsTurn (agreed : Agreed) (offer : Offer) (text : List ℕ) (turn : Turn) : Type 0 where
  pub content : List ℕ
  pub code_fits : turn.code < 2 ^ 32
  pub bound : length content ≤ most_bytes turn.code
  pub whole : text ≡ option_head turn.code (length content) ++ content
  pub told : IsTold agreed offer turn.code content turn.answer

-- what a session has read last, that is not whole
pub data Standing : Type 0 where
  -- nothing was said yet
  silent : Standing
  -- the first bytes of the client's flags
  in_flags : (bytes : List ℕ) → Standing
  -- the first bytes of what stands before an option's data
  in_head : (bytes : List ℕ) → Standing
  -- an option with this many bytes of data, and the first of them
  in_option : (code size : ℕ) (bytes : List ℕ) → Standing
  -- an option whose data are thrown away, and how many of them are still to come
  in_discard : (code missing : ℕ) → Standing
  -- transmission
  in_requests : (reader : Reader) → Standing
  -- an ABORT or a DISC was read
  ended : Standing
  -- what stands here ends the session: refusal 20 (protocol end)
  broken : Standing
  -- memory ran out, and nothing more is read
  exhausted : Standing

-- what stands in an option's place isn't one, or may not be read
abbrev pub IsNoOption : List ℕ → Type 0
IsNoOption text = (16 ≤ length text) × (take 8 text ≢ option_magic)

abbrev pub IsTooLong : List ℕ → Type 0
IsTooLong text =
    (code size : ℕ) × (more : List ℕ) × (code < 2 ^ 32) × (size < 2 ^ 32) × (most_bytes code < size)
    × (text ≡ option_head code size ++ more)

-- This is left of a text that begins with no whole option.
abbrev pub Leaves : Standing → List ℕ → Type 0
Leaves silent text = ⊥
Leaves (in_flags bytes) text = ⊥
Leaves (in_head bytes) text = (length bytes < 16) × (text ≡ bytes)
Leaves (in_option code size bytes) text =
    (code < 2 ^ 32) × (size ≤ kept_limit) × (length bytes < size) × (text ≡ option_head code size ++ bytes)
Leaves (in_discard code missing) text =
    (sent : List ℕ) × (code < 2 ^ 32) × (0 < missing) × (kept_limit < length sent + missing)
    × (length sent + missing ≤ most_bytes code) × (text ≡ option_head code (length sent + missing) ++ sent)
Leaves (in_requests reader) text = ⊥
Leaves ended text = ⊥
Leaves broken text = IsNoOption text ⊎ IsTooLong text
Leaves exhausted text = ⊥

-- a DISC, which ends the session
abbrev pub is_disc : Message → Bool
is_disc request = request.head.kind == 2

abbrev pub before_disc : List Message → List Message
before_disc requests = before_first is_disc requests

-- none of these requests is a DISC
abbrev pub HasNoDisc : List Message → Type 0
HasNoDisc requests = list_any is_disc requests ≡ false

-- These requests of a stream were handed out: the whole ones before a DISC.
abbrev pub Asks : List ℕ → List Message → Standing → Type 0
Asks stream requests silent = ⊥
Asks stream requests (in_flags bytes) = ⊥
Asks stream requests (in_head bytes) = ⊥
Asks stream requests (in_option code size bytes) = ⊥
Asks stream requests (in_discard code missing) = ⊥
Asks stream requests (in_requests (reading kept)) = Reads stream requests kept × HasNoDisc requests
Asks stream requests (in_requests starved) = ⊥
Asks stream requests ended =
    (all : List Message) × Begins stream all × (list_any is_disc all ≡ true) × (requests ≡ before_disc all)
Asks stream requests broken = ⊥
Asks stream requests exhausted = ⊥

-- what was handed out of a stream, what is agreed on, and what is left of it
pub record Outcome : Type 0 where
  pub requests : List Message
  pub agreed : Agreed
  pub standing : Standing

-- after the last option nothing was read
abbrev pub IsOver : Agreed → Outcome → Standing → Type 0
IsOver agreed outcome standing =
    (outcome.requests ≡ []) × (outcome.agreed ≡ agreed) × (outcome.standing ≡ standing)

-- what follows an option, by what its answer says of it; `options` are the further options
abbrev pub Follows : Next → Agreed → List ℕ → List Turn → Outcome → Type 0 → Type 0
Follows behind.Option agreed rest turns outcome options = options
Follows behind.Transmission agreed rest turns outcome options =
    (turns ≡ []) × (outcome.agreed ≡ agreed) × Asks rest outcome.requests outcome.standing
Follows behind.End agreed rest turns outcome options = (turns ≡ []) × IsOver agreed outcome ended
Follows behind.Fault agreed rest turns outcome options = (turns ≡ []) × IsOver agreed outcome broken

-- After the client's flags stand these options, one after another, and after them perhaps requests.
abbrev pub Negotiates : Offer → Agreed → List ℕ → List Turn → Outcome → Type 0
Negotiates offer agreed stream [] outcome =
    (outcome.requests ≡ []) × (outcome.agreed ≡ agreed) × Leaves outcome.standing stream
Negotiates offer agreed stream (turn ∷ turns) outcome =
    (text rest : List ℕ) × IsTurn agreed offer text turn × (stream ≡ text ++ rest)
    × Follows turn.answer.next turn.answer.agreed rest turns outcome (Negotiates offer turn.answer.agreed rest turns outcome)

-- nothing is agreed on at first
abbrev pub plain : Agreed
plain = record { flags = record { structured = false; context = false }; no_zeroes = false }

-- what is agreed on by the client's flags: the greeting sets NO_ZEROES, so the client decides
abbrev pub agreed_with : ClientFlags → Agreed → Agreed
agreed_with client agreed = record { flags = agreed.flags; no_zeroes = omits_zeroes client }

-- the flags of a client with which a session goes on
abbrev pub IsAccepted : ClientFlags → Type 0
IsAccepted client = (client_bits client ≡ 1) ⊎ (client_bits client ≡ 3)

-- a text that doesn't begin with such flags
abbrev pub LeavesFlags : Standing → List ℕ → Type 0
LeavesFlags silent text = text ≡ []
LeavesFlags (in_flags bytes) text = (length bytes < 4) × (text ≡ bytes)
LeavesFlags (in_head bytes) text = ⊥
LeavesFlags (in_option code size bytes) text = ⊥
LeavesFlags (in_discard code missing) text = ⊥
LeavesFlags (in_requests reader) text = ⊥
LeavesFlags ended text = ⊥
LeavesFlags broken text =
    (client : ClientFlags) × (more : List ℕ) × (client_bits client < 2 ^ 32) × (IsAccepted client → ⊥)
    × (text ≡ client_flags_bytes client ++ more)
LeavesFlags exhausted text = ⊥

-- the first of the client's flags, or other flags than a session goes on with
pub record IsFlagless (stream : List ℕ) (turns : List Turn) (outcome : Outcome) : Type 0 where
  pub none : turns ≡ []
  pub requests : outcome.requests ≡ []
  pub agreed : outcome.agreed ≡ plain
  pub leaves : LeavesFlags outcome.standing stream

-- the client's flags, and what stands after them
pub record IsNegotiated (offer : Offer) (stream : List ℕ) (turns : List Turn) (outcome : Outcome) : Type 0 where
  pub client : ClientFlags
  pub rest : List ℕ
  pub accepted : IsAccepted client
  pub whole : stream ≡ client_flags_bytes client ++ rest
  pub negotiates : Negotiates offer (agreed_with client plain) rest turns outcome

-- A session that offers this export has read this stream: these options were answered, and this came of it.
abbrev pub Hears : Offer → List ℕ → List Turn → Outcome → Type 0
Hears offer stream turns outcome = IsFlagless stream turns outcome ⊎ IsNegotiated offer stream turns outcome

-- the answers to options, one option after another
abbrev pub answers_text : List Turn → List ℕ
answers_text turns = flat_map (λ turn. answer_bytes turn.code turn.answer) turns

-- the text of a handshake: the greeting, and the answers to options
abbrev pub handshake_text : List Turn → List ℕ
handshake_text turns = greeting_bytes ++ answers_text turns

-- Two hearings of one stream are one: the same options were answered, the same requests handed out, and the same is left. Only of
-- an empty stream it is open whether anything was said yet.
abbrev pub OneHearing : Type 0
OneHearing =
    (offer : Offer) (stream : List ℕ) (turns others : List Turn) (outcome other : Outcome) → Hears offer stream turns outcome
    → Hears offer stream others other
    → (turns ≡ others) × (outcome.requests ≡ other.requests) × (outcome.agreed ≡ other.agreed)
    × (stream ≢ [] → outcome.standing ≡ other.standing)
