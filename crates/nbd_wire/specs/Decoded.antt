-- What a client reads in the bytes of a reply. It knows what it asked: the type of the request, its cookie and its range.
use Rattle.std.specs.Prelude.{◌≡◌, ◌≢◌, ℕ, ◌+◌, ◌^◌, ◌<◌, Bool, true, false, ◌&&◌, not, List, [], ◌∷◌, ◌++◌, length, replicate, sum_by, ◌≤◌}
use Rattle.std.specs.List.{AllByRecursion}
use Rattle.nbd_wire.specs.declared.head.RequestHead.{RequestHead}
use Rattle.nbd_wire.specs.declared.message.Answer.{Answer}
use Rattle.nbd_wire.specs.declared.message.Answer.TheVariants.{Done, Refused, Bytes, States}
use Rattle.nbd_wire.specs.declared.message.Run.{Run}
use Rattle.nbd_wire.specs.declared.message.SessionFlags.{SessionFlags}
use Rattle.nbd_wire.specs.Answer.{IsBytesRead, IsStates, data_status, hole_status, one_run}
use Rattle.nbd_wire.specs.Errno.{errno_number}
use Rattle.nbd_wire.specs.Head.{simple_reply}
use Rattle.nbd_wire.specs.Chunk.{Chunk, offset_data, offset_hole, block_status, error, chunks_bytes, payload}
use Rattle.nbd_wire.specs.Reply.{read_type, status_type, is_chunked, reply_text, IsAnswerTo}

-- numbers that have room in a chunk
abbrev pub FitsChunk : Chunk → Type 0
FitsChunk (offset_data offset bytes) = (offset < 2 ^ 64) × (8 + length bytes < 2 ^ 32)
FitsChunk (offset_hole offset size) = (offset < 2 ^ 64) × (size < 2 ^ 32)
FitsChunk (block_status runs) =
    AllByRecursion (λ run. (run.length < 2 ^ 32) × (run.status < 2 ^ 32)) runs × (length (payload (block_status runs)) < 2 ^ 32)
FitsChunk (error number) = number < 2 ^ 32

-- These chunks tell the bytes from here on, and the runs that they are in: one after the other, without a gap.
abbrev pub TellsBytes : ℕ → List Chunk → List ℕ → List Run → Type 0
TellsBytes at [] bytes runs = (bytes ≡ []) × (runs ≡ [])
TellsBytes at (offset_data offset part ∷ chunks) bytes runs =
    (offset ≡ at) × (rest : List ℕ) × (others : List Run) × (bytes ≡ part ++ rest)
    × (runs ≡ record { length = length part; status = data_status } ∷ others)
    × TellsBytes (at + length part) chunks rest others
TellsBytes at (offset_hole offset size ∷ chunks) bytes runs =
    (offset ≡ at) × (rest : List ℕ) × (others : List Run) × (bytes ≡ replicate size 0 ++ rest)
    × (runs ≡ record { length = size; status = hole_status } ∷ others) × TellsBytes (at + size) chunks rest others
TellsBytes at (block_status states ∷ chunks) bytes runs = ⊥
TellsBytes at (error number ∷ chunks) bytes runs = ⊥

-- states of the request's range, from its first byte on, and of no more
abbrev pub IsCut : List Run → RequestHead → Type 0
IsCut runs head = sum_by (λ run. run.length) runs ≤ head.length

-- These chunks tell the answer to the request.
abbrev pub TellsAnswer : RequestHead → List Chunk → Answer → Type 0
TellsAnswer head chunks Done = ⊥
TellsAnswer head chunks (Refused errno) = chunks ≡ error (errno_number errno) ∷ []
TellsAnswer head chunks (Bytes read) =
    (head.kind ≡ read_type) × (read.offset ≡ head.offset) × (length read.bytes ≡ head.length)
    × TellsBytes head.offset chunks read.bytes read.runs
TellsAnswer head chunks (States runs) =
    (head.kind ≡ status_type) × (chunks ≡ block_status runs ∷ []) × IsStates runs × IsCut runs head

-- A reply in chunks: one at least, the last of them with DONE.
pub record DecodesChunks (head : RequestHead) (text : List ℕ) (answer : Answer) : Type 0 where
  pub chunks : List Chunk
  pub some : 0 < length chunks
  pub fits : AllByRecursion FitsChunk chunks
  pub whole : text ≡ chunks_bytes head.cookie chunks
  pub tells : TellsAnswer head chunks answer

-- The number and the bytes of a simple reply tell the answer; all of a READ's bytes are taken for data.
abbrev pub TellsSimply : RequestHead → ℕ → List ℕ → Answer → Type 0
TellsSimply head number bytes Done = (head.kind ≢ read_type) × (number ≡ 0) × (bytes ≡ [])
TellsSimply head number bytes (Refused errno) = (number ≡ errno_number errno) × (bytes ≡ [])
TellsSimply head number bytes (Bytes read) =
    (head.kind ≡ read_type) × (number ≡ 0) × (length bytes ≡ head.length) × (read ≡ one_run head.offset bytes data_status)
TellsSimply head number bytes (States runs) = ⊥

pub record DecodesSimple (head : RequestHead) (text : List ℕ) (answer : Answer) : Type 0 where
  pub number : ℕ
  pub bytes : List ℕ
  pub fits : number < 2 ^ 32
  pub whole : text ≡ simple_reply number head.cookie bytes
  pub tells : TellsSimply head number bytes answer

-- the bytes are a reply in this form, and tell the answer
abbrev pub DecodesIn : Bool → RequestHead → List ℕ → Answer → Type 0
DecodesIn true head text answer = DecodesChunks head text answer
DecodesIn false head text answer = DecodesSimple head text answer

-- the client of a session reads the answer to its request in these bytes
abbrev pub Decodes : SessionFlags → RequestHead → List ℕ → Answer → Type 0
Decodes session head text answer = DecodesIn (is_chunked session head.kind) head text answer

-- the reply answers the request with what it asked for, in numbers of 32 bits
abbrev pub AnswersRequest : RequestHead → Answer → Type 0
AnswersRequest head Done = Unit {0}
AnswersRequest head (Refused errno) = Unit {0}
AnswersRequest head (Bytes read) =
    IsBytesRead read × (read.offset ≡ head.offset) × (length read.bytes ≡ head.length)
AnswersRequest head (States runs) =
    IsStates runs × AllByRecursion (λ run. (run.length < 2 ^ 32) × (run.status < 2 ^ 32)) runs × IsCut runs head

-- what a client is told of an answer: in which runs bytes are, only by a chunk for each
abbrev pub told : Bool → Answer → Answer
told true answer = answer
told false Done = Done
told false (Refused errno) = Refused errno
told false (Bytes read) = Bytes (one_run read.offset read.bytes data_status)
told false (States runs) = States runs

-- what is written for an answer is read as this answer
abbrev pub ReadsBack : Type 0
ReadsBack =
    (session : SessionFlags) (head : RequestHead) (df : Bool) (answer : Answer) → IsAnswerTo session head.kind answer
    → AnswersRequest head answer
    → Decodes session head (reply_text session head.kind df (record { cookie = head.cookie; answer = answer }))
    (told (is_chunked session head.kind && not df) answer)

-- No reply to a request begins another, and each tells one answer.
abbrev pub OneReply : Type 0
OneReply =
    (session : SessionFlags) (head : RequestHead) (text other x y : List ℕ) (answer others : Answer)
    → Decodes session head text answer → Decodes session head other others → text ++ x ≡ other ++ y
    → (text ≡ other) × (answer ≡ others)

-- each answer is told by one text
abbrev pub OneSpelling : Type 0
OneSpelling =
    (session : SessionFlags) (head : RequestHead) (text other : List ℕ) (answer : Answer)
    → Decodes session head text answer → Decodes session head other answer → text ≡ other
