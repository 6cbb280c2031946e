-- A stream of requests, and what a reader keeps of it.
use Rattle.std.specs.Prelude.{◌≡◌, ◌≢◌, ℕ, ◌+◌, ◌-◌, ◌<◌, ◌≤◌, Option, Some, None, List, [], ◌∷◌, ◌++◌, length, take, Result, Ok, Err}
use Rattle.std.specs.Global.{Vec}
use Rattle.std.specs.Io.KnownBytes.{Consumes, IsAtEnd}
use Rattle.std.specs.List.{flat_map}
use Rattle.nbd_wire.specs.declared.error.RequestFault.{RequestFault}
use Rattle.nbd_wire.specs.declared.error.RequestFault.TheVariants.{BadMagic, TooLong}
use Rattle.nbd_wire.specs.declared.error.WireFault.{WireFault}
use Rattle.nbd_wire.specs.declared.error.WireFault.TheVariants.{NoMemory, Malformed}
use Rattle.nbd_wire.specs.declared.head.RequestHead.{RequestHead}
use Rattle.nbd_wire.specs.Head.{request_magic, head_bytes, IsHead}
use Rattle.nbd_wire.specs.Request.{write_type, payload_limit, stream_limit, Message, IsRequest}

-- what is left of a stream after its last whole request
pub data Kept : Type 0 where
  -- the first bytes of a head
  in_head : (bytes : List ℕ) → Kept
  -- the head of a WRITE, and the first of its data
  in_data : (head : RequestHead) (bytes : List ℕ) → Kept
  -- the head of a WRITE whose data are thrown away, and how many of them are still to come
  in_discard : (head : RequestHead) (missing : ℕ) → Kept
  -- no request stands here or after
  failed : (fault : RequestFault) → Kept

-- the fault stands in a request's place
abbrev pub IsFault : RequestFault → List ℕ → Type 0
IsFault BadMagic text = (28 ≤ length text) × (take 4 text ≢ request_magic)
IsFault TooLong text =
    (head : RequestHead) × (more : List ℕ) × IsHead head × (head.kind ≡ write_type) × (stream_limit < head.length)
    × (text ≡ head_bytes head ++ more)

-- a WRITE whose data are kept
abbrev pub IsKeptWrite : RequestHead → Type 0
IsKeptWrite head = IsHead head × (head.kind ≡ write_type) × (head.length ≤ payload_limit)

-- a WRITE whose data are thrown away
abbrev pub IsDiscardedWrite : RequestHead → Type 0
IsDiscardedWrite head =
    IsHead head × (head.kind ≡ write_type) × (payload_limit < head.length) × (head.length ≤ stream_limit)

-- This is what is kept of a text that is no whole request, or begins with a fault.
abbrev pub Keeps : Kept → List ℕ → Type 0
Keeps (in_head bytes) text = (length bytes < 28) × (text ≡ bytes)
Keeps (in_data head bytes) text =
    IsKeptWrite head × (length bytes < head.length) × (text ≡ head_bytes head ++ bytes)
Keeps (in_discard head missing) text =
    IsDiscardedWrite head × (sent : List ℕ) × (0 < missing) × (length sent + missing ≡ head.length)
    × (text ≡ head_bytes head ++ sent)
Keeps (failed fault) text = IsFault fault text

-- The stream is these requests, and then what is kept.
abbrev pub Reads : List ℕ → List Message → Kept → Type 0
Reads stream [] kept = Keeps kept stream
Reads stream (request ∷ requests) kept =
    (text rest : List ℕ) × IsRequest text request × (stream ≡ text ++ rest) × Reads rest requests kept

-- These are the first requests of the stream, however it goes on.
pub record Begins (stream : List ℕ) (requests : List Message) : Type 0 where
  pub first : List ℕ
  pub rest : List ℕ
  pub kept : Kept
  pub parts : stream ≡ first ++ rest
  pub reads : Reads first requests kept

-- what a reader is at
pub data Reader : Type 0 where
  -- it has read all that it was fed, and keeps this of it
  reading : (kept : Kept) → Reader
  -- memory ran out, and it reads no more
  starved : Reader

-- a reader at the beginning of a stream
abbrev pub fresh : Reader
fresh = reading (in_head [])

-- A reader that had read any stream up to here has read the stream and the piece, with these further requests.
abbrev pub ReadsOn : Kept → List ℕ → List Message → Kept → Type 0
ReadsOn old piece requests new =
    (stream : List ℕ) (before : List Message) → Reads stream before old → Reads (stream ++ piece) (before ++ requests) new

-- A call that is fed the piece finds these requests. Memory may run out after any first part of the piece: the requests are
-- those that are whole in it.
abbrev pub Feeds : Reader → List ℕ → List Message → Reader → Type 0
Feeds (reading old) piece requests (reading new) = ReadsOn old piece requests new
Feeds (reading old) piece requests starved =
    (first rest : List ℕ) × (between : Kept) × (piece ≡ first ++ rest) × ReadsOn old first requests between
Feeds starved piece requests new = (requests ≡ []) × (new ≡ starved)

-- why a reader hands out nothing more
abbrev pub end_of : Reader → Option WireFault
end_of (reading (in_head bytes)) = None
end_of (reading (in_data head bytes)) = None
end_of (reading (in_discard head missing)) = None
end_of (reading (failed fault)) = Some (Malformed fault)
end_of starved = Some NoMemory

-- the requests that are handed out
abbrev pub answered : Result (Vec Message) WireFault → List Message
answered (Ok requests) = requests.items
answered (Err fault) = []

-- how many bytes are held
abbrev pub held : Reader → ℕ
held (reading (in_head bytes)) = length bytes
held (reading (in_data head bytes)) = 28 + length bytes
held (reading (in_discard head missing)) = 28
held (reading (failed fault)) = 0
held starved = 0

-- how many bytes end the head or the data at hand
abbrev pub missing_len : Reader → ℕ
missing_len (reading (in_head bytes)) = 28 - length bytes
missing_len (reading (in_data head bytes)) = head.length - length bytes
missing_len (reading (in_discard head missing)) = missing
missing_len (reading (failed fault)) = 0
missing_len starved = 0

-- how many bytes are still to come of data that are kept
abbrev pub room_of : Reader → ℕ
room_of (reading (in_head bytes)) = 0
room_of (reading (in_data head bytes)) = head.length - length bytes
room_of (reading (in_discard head missing)) = 0
room_of (reading (failed fault)) = 0
room_of starved = 0

-- This many bytes were read off a stream as a piece that was fed; it ends no request. None comes only at the end of the stream.
pub record Fills (old : Reader) (input left : Option (List ℕ)) (count : ℕ) (new : Reader) : Type 0 where
  pub piece : List ℕ
  pub len : length piece ≡ count
  pub read : Consumes input left piece
  pub feeds : Feeds old piece [] new
  pub going : end_of new ≡ None
  pub end : count ≡ 0 → IsAtEnd left

-- what is kept begins with no whole request
abbrev pub NoRequest : Type 0
NoRequest =
    (text rest : List ℕ) (request : Message) (kept : Kept) → IsRequest text request → Keeps kept (text ++ rest) → ⊥

-- two readings of one stream are one
abbrev pub OneReading : Type 0
OneReading =
    (stream : List ℕ) (requests others : List Message) (kept other : Kept) → Reads stream requests kept
    → Reads stream others other → (requests ≡ others) × (kept ≡ other)

-- the first requests of a stream begin all of its requests
abbrev pub FirstRequests : Type 0
FirstRequests =
    (stream : List ℕ) (some all : List Message) (kept : Kept) → Begins stream some → Reads stream all kept
    → (more : List Message) × (all ≡ some ++ more)

-- a piece of a stream, and the requests that were handed out for it
pub record Fed : Type 0 where
  pub piece : List ℕ
  pub requests : List Message

abbrev pub all_bytes : List Fed → List ℕ
all_bytes feeds = flat_map (λ fed. fed.piece) feeds

abbrev pub all_requests : List Fed → List Message
all_requests feeds = flat_map (λ fed. fed.requests) feeds

-- a reader went from old to new by these calls
abbrev pub IsRun : Reader → List Fed → Reader → Type 0
IsRun old [] new = old ≡ new
IsRun old (fed ∷ feeds) new =
    (between : Reader) × Feeds old fed.piece fed.requests between × IsRun between feeds new

-- what all calls of a new reader together handed out are the requests of the whole stream
abbrev pub WholeStream : Type 0
WholeStream =
    (feeds : List Fed) (kept : Kept) → IsRun fresh feeds (reading kept) → Reads (all_bytes feeds) (all_requests feeds) kept

-- and where memory ran out they are its first ones
abbrev pub FirstOfStream : Type 0
FirstOfStream = (feeds : List Fed) → IsRun fresh feeds starved → Begins (all_bytes feeds) (all_requests feeds)

-- it doesn't matter how a stream is cut into pieces
abbrev pub AnyPieces : Type 0
AnyPieces =
    (feeds others : List Fed) (kept other : Kept) → IsRun fresh feeds (reading kept)
    → IsRun fresh others (reading other) → all_bytes feeds ≡ all_bytes others
    → (all_requests feeds ≡ all_requests others) × (kept ≡ other)
