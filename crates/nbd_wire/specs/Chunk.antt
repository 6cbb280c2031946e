-- The chunks of structured replies as bytes, all numbers big endian ("Structured reply chunk message" and "Structured
-- reply types" of NBD's proto.md).
use Rattle.std.specs.Prelude.{ℕ, Bool, true, false, List, [], ◌∷◌, ◌++◌, length}
use Rattle.std.specs.Int.{w16, w32, w64, to_be_bytes}
use Rattle.std.specs.List.{flat_map}
use Rattle.nbd_wire.specs.declared.message.Run.{Run}

-- what a chunk tells
pub data Chunk : Type 0 where
  -- the bytes from an offset on are data, these
  offset_data : (offset : ℕ) (bytes : List ℕ) → Chunk
  -- this many bytes from an offset on are a hole, and read as zero
  offset_hole : (offset size : ℕ) → Chunk
  -- the states of the bytes that were asked for, from the first on
  block_status : (runs : List Run) → Chunk
  -- the request is refused
  error : (number : ℕ) → Chunk

abbrev pub chunk_type : Chunk → ℕ
chunk_type (offset_data offset bytes) = 1
chunk_type (offset_hole offset size) = 2
chunk_type (block_status runs) = 5
chunk_type (error number) = 0x8001

abbrev pub run_bytes : Run → List ℕ
run_bytes run = to_be_bytes w32 run.length ++ to_be_bytes w32 run.status

-- what stands after the head: states are those of the context with id 1, and an error has an empty message
abbrev pub payload : Chunk → List ℕ
payload (offset_data offset bytes) = to_be_bytes w64 offset ++ bytes
payload (offset_hole offset size) = to_be_bytes w64 offset ++ to_be_bytes w32 size
payload (block_status runs) = to_be_bytes w32 1 ++ flat_map run_bytes runs
payload (error number) = to_be_bytes w32 number ++ to_be_bytes w16 0

-- the flags of a chunk: bit 0, DONE, says that no other chunk of the reply follows
abbrev pub chunk_flags : Bool → ℕ
chunk_flags true = 1
chunk_flags false = 0

-- the 20 bytes before the payload
unfoldable pub chunk_head : Bool → ℕ → ℕ → ℕ → List ℕ
chunk_head done kind cookie size =
    to_be_bytes w32 0x668e33ef ++ to_be_bytes w16 (chunk_flags done) ++ to_be_bytes w16 kind ++ to_be_bytes w64 cookie
    ++ to_be_bytes w32 size

abbrev pub chunk_bytes : Bool → ℕ → Chunk → List ℕ
chunk_bytes done cookie chunk =
    chunk_head done (chunk_type chunk) cookie (length (payload chunk)) ++ payload chunk

abbrev pub is_last : List Chunk → Bool
is_last [] = true
is_last (chunk ∷ chunks) = false

-- the chunks of one reply: DONE stands on the last and on no other
abbrev pub chunks_bytes : ℕ → List Chunk → List ℕ
chunks_bytes cookie [] = []
chunks_bytes cookie (chunk ∷ chunks) = chunk_bytes (is_last chunks) cookie chunk ++ chunks_bytes cookie chunks
