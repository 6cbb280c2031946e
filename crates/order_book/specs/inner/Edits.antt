-- Definitions for contracts between functions of this crate, next to those of `Edits`.
use Rattle.std.specs.Prelude.{ℕ, ◌≡◌, ◌+◌, ◌-◌, ◌*◌, ◌/◌, ◌%◌, Bool, true, false, max, min, List, ◌++◌, length, take, drop, replicate, Option, Some, None}
use Rattle.image_model.specs.declared.command.Command.{Command}
use Rattle.image_model.specs.declared.command.Command.TheVariants as command
use Rattle.image_model.specs.declared.command.Edges.{Edges}
use Rattle.image_model.specs.declared.command.Edges.TheVariants.{Head, Tail, Both}
use Rattle.image_model.specs.declared.command.Kind.TheVariants.{Hole}
use Rattle.image_model.specs.declared.edit.Edit.{Edit}
use Rattle.image_model.specs.declared.edit.Edit.TheVariants as edit
use Rattle.image_model.specs.Change.{Change, Written, Cleared}
use Rattle.image_model.specs.Edit.{ByteEdit, BytesPut, BytesZeroed, BytesTrimmed, blocks_met}

-- the bytes of all blocks that a put touches, of old ones of the first and of the last, and its own between them
abbrev pub put_bytes : List ℕ → ℕ → List ℕ → List ℕ → List ℕ
put_bytes first offset bytes last =
    (take (offset % 4096) first ++ bytes) ++ drop (offset % 4096 + length bytes - 4096 * (blocks_met offset (length bytes) - 1)) last

-- the old bytes of a block, zero where this many bytes from the offset on stand
abbrev pub zeroed_block : ℕ → ℕ → ℕ → List ℕ → List ℕ
zeroed_block offset count block old =
    let from = max offset (4096 * block) - 4096 * block in
    let to = min (offset + count) (4096 * block + 4096) - 4096 * block in
    (take from old ++ replicate (to - from) 0) ++ drop to old

-- the bytes of the edges, those of the first block and those of the last
abbrev pub edge_bytes : Edges → List ℕ → List ℕ → List ℕ
edge_bytes Head first last = first
edge_bytes Tail first last = last
edge_bytes Both first last = first ++ last

-- The edit puts whole blocks, and what it then becomes over any image.
abbrev pub IsWholePut : ByteEdit → Type 0
IsWholePut (BytesPut offset bytes) = (offset % 4096 ≡ 0) × (length bytes % 4096 ≡ 0)
IsWholePut (BytesZeroed offset count kind) = ⊥
IsWholePut (BytesTrimmed offset count) = ⊥

abbrev pub whole_change : ByteEdit → Change
whole_change (BytesPut offset bytes) = Written (offset / 4096) bytes
whole_change (BytesZeroed offset count kind) = Cleared 0 0 kind
whole_change (BytesTrimmed offset count) = Cleared 0 0 Hole

-- the command is a put, and the edit at this offset that it stands for
abbrev pub IsPut : Command → Type 0
IsPut (command.Put first bytes) = Unit {0}
IsPut (command.Clear first blocks kind) = ⊥
IsPut (command.Edged first blocks kind edges bytes) = ⊥

abbrev pub put_again : ℕ → Command → Edit
put_again offset (command.Put first bytes) = edit.Put offset bytes
put_again offset (command.Clear first blocks kind) = edit.Trim offset 0
put_again offset (command.Edged first blocks kind edges bytes) = edit.Trim offset 0

-- which edges a clear has, if any
abbrev pub edges_given : Bool → Bool → Option Edges
edges_given true true = Some Both
edges_given true false = Some Head
edges_given false true = Some Tail
edges_given false false = None
