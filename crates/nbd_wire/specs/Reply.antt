-- The bytes of a reply, by what the handshake agreed on and what was asked ("Transmission" of NBD's proto.md).
use Rattle.std.specs.Prelude.{◌≡◌, ◌≢◌, ℕ, ◌+◌, Bool, true, ◌&&◌, ◌||◌, ◌==◌, if◌then◌else◌, List, [], ◌∷◌, take, drop}
use Rattle.nbd_wire.specs.declared.message.Answer.{Answer}
use Rattle.nbd_wire.specs.declared.message.Answer.TheVariants.{Done, Refused, Bytes, States}
use Rattle.nbd_wire.specs.declared.message.Reply.{Reply}
use Rattle.nbd_wire.specs.declared.message.Run.{Run}
use Rattle.nbd_wire.specs.declared.message.SessionFlags.{SessionFlags}
use Rattle.nbd_wire.specs.Answer.{data_status}
use Rattle.nbd_wire.specs.Errno.{errno_number}
use Rattle.nbd_wire.specs.Head.{simple_reply}
use Rattle.nbd_wire.specs.Chunk.{Chunk, offset_data, offset_hole, block_status, error, chunks_bytes}

-- the types of a READ and of a BLOCK_STATUS
abbrev pub read_type : ℕ
read_type = 0

abbrev pub status_type : ℕ
status_type = 7

-- the chunk on one run of bytes that begin at an offset
abbrev pub part_chunk : ℕ → Run → List ℕ → Chunk
part_chunk offset run bytes =
    if run.status == data_status then offset_data offset (take run.length bytes) else offset_hole offset run.length

-- the bytes that were read, a chunk for each run
abbrev pub part_chunks : ℕ → List Run → List ℕ → List Chunk
part_chunks offset [] bytes = []
part_chunks offset (run ∷ runs) bytes =
    part_chunk offset run bytes ∷ part_chunks (offset + run.length) runs (drop run.length bytes)

-- An answer in chunks; DF asks for bytes in one chunk. The answer to a request that is only done has none.
abbrev pub chunks_of : Bool → Answer → List Chunk
chunks_of df Done = []
chunks_of df (Refused errno) = error (errno_number errno) ∷ []
chunks_of df (Bytes read) =
    if df then offset_data read.offset read.bytes ∷ [] else part_chunks read.offset read.runs read.bytes
chunks_of df (States runs) = block_status runs ∷ []

-- An answer as a simple reply; states are told in chunks alone.
abbrev pub simple_text : ℕ → Answer → List ℕ
simple_text cookie Done = simple_reply 0 cookie []
simple_text cookie (Refused errno) = simple_reply (errno_number errno) cookie []
simple_text cookie (Bytes read) = simple_reply 0 cookie read.bytes
simple_text cookie (States runs) = []

-- whether a request of this type is answered in chunks, an error included
abbrev pub is_chunked : SessionFlags → ℕ → Bool
is_chunked session kind = session.structured && ((kind == read_type) || (kind == status_type))

abbrev pub reply_text : SessionFlags → ℕ → Bool → Reply → List ℕ
reply_text session kind df reply =
    if is_chunked session kind then chunks_bytes reply.cookie (chunks_of df reply.answer)
    else simple_text reply.cookie reply.answer

-- what a request of this type may be answered: bytes to a READ, states to a BLOCK_STATUS, nothing more than that it is
-- done to any other, and an error to each
abbrev pub IsAnswerTo : SessionFlags → ℕ → Answer → Type 0
IsAnswerTo session kind Done = (kind ≢ read_type) × (kind ≢ status_type)
IsAnswerTo session kind (Refused errno) = Unit {0}
IsAnswerTo session kind (Bytes read) = kind ≡ read_type
IsAnswerTo session kind (States runs) = (kind ≡ status_type) × (session.structured ≡ true) × (session.context ≡ true)
