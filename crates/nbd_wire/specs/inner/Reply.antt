-- Definitions for contracts between functions of this crate, next to those of `Reply`.
use Rattle.std.specs.Prelude.{ℕ, ◌+◌, Bool, true, ◌==◌, if◌then◌else◌, List}
use Rattle.nbd_wire.specs.declared.message.Run.{Run}
use Rattle.nbd_wire.specs.Answer.{BytesRead, data_status}
use Rattle.nbd_wire.specs.Head.{simple_reply}
use Rattle.nbd_wire.specs.Chunk.{offset_data, chunk_bytes}

-- how many bytes the chunk on a run takes
abbrev pub part_len : Run → ℕ
part_len run = if run.status == data_status then 28 + run.length else 32

-- the bytes of a READ in one piece: in one chunk, or in a simple reply
abbrev pub whole_text : ℕ → Bool → BytesRead → List ℕ
whole_text cookie chunked read =
    if chunked then chunk_bytes true cookie (offset_data read.offset read.bytes) else simple_reply 0 cookie read.bytes
