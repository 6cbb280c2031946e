-- the dirty blocks: those whose last touch is a write, each with that write's number
use Rattle.std.specs.Prelude.{ℕ, ◌+◌, zero, suc, min, Bool, true, false, not, nat_le, nat_lt, if◌then◌else◌, Option, Some, None, List, [], ◌∷◌}
use Rattle.std.specs.List.{list_any}
use Rattle.std.specs.Ordering.{nat_cmp}
use Rattle.std.specs.FinMap.{FinMap, empty, get, insert, retain_keys, len}
use Rattle.image_model.specs.declared.command.Edges.{Edges}
use Rattle.image_model.specs.declared.command.Edges.TheVariants.{Head, Tail, Both}
use Rattle.image_model.specs.Change.{Change, Written, Cleared, Edged}
pub use Rattle.image_model.specs.Image.{touches, writes}
use Rattle.image_model.specs.Image.{covers, blocks_of, last_of}

abbrev pub Dirty : Type 0
Dirty = FinMap nat_cmp ℕ

-- this many blocks from the first one on have this number
unfoldable pub with_blocks : Dirty → ℕ → ℕ → ℕ → Dirty
with_blocks dirty number first zero = dirty
with_blocks dirty number first (suc count) = insert (with_blocks dirty number first count) (first + count) number

-- this many blocks from the first one on are clean
abbrev pub without_blocks : Dirty → ℕ → ℕ → Dirty
without_blocks dirty first count = retain_keys dirty (λ block. not (covers first count block))

-- whether a block's number, where it has one, is above this number
abbrev pub is_above : ℕ → Option ℕ → Bool
is_above number None = false
is_above number (Some own) = nat_lt number own

-- the blocks whose number is at most this one are clean; the others keep theirs
abbrev pub clean_through : Dirty → ℕ → Dirty
clean_through dirty number = retain_keys dirty (λ block. is_above number (get dirty block))

-- the edges of this many blocks from the first one on have this number
abbrev pub with_edges : Dirty → ℕ → ℕ → ℕ → Edges → Dirty
with_edges dirty number first blocks Head = with_blocks dirty number first (min 1 blocks)
with_edges dirty number first blocks Tail = with_blocks dirty number (last_of first blocks) (min 1 blocks)
with_edges dirty number first blocks Both =
    with_blocks (with_blocks dirty number first (min 1 blocks)) number (last_of first blocks) (min 1 blocks)

-- the blocks that a command writes have this number
abbrev pub with_written : Dirty → ℕ → Change → Dirty
with_written dirty number (Written first bytes) = with_blocks dirty number first (blocks_of (Written first bytes))
with_written dirty number (Cleared first blocks kind) = dirty
with_written dirty number (Edged first blocks kind edges bytes) = with_edges dirty number first blocks edges

-- the blocks that a command clears are clean
abbrev pub without_cleared : Dirty → Change → Dirty
without_cleared dirty (Written first bytes) = dirty
without_cleared dirty (Cleared first blocks kind) = without_blocks dirty first blocks
without_cleared dirty (Edged first blocks kind edges bytes) = without_blocks dirty first blocks

-- the dirty blocks after a command with this number
abbrev pub dirty_after : Dirty → ℕ → Change → Dirty
dirty_after dirty number change = with_written (without_cleared dirty change) number change

-- the dirty blocks after more commands, with the numbers after `last`
abbrev pub dirty_from : Dirty → ℕ → List Change → Dirty
dirty_from dirty last [] = dirty
dirty_from dirty last (change ∷ changes) = dirty_from (dirty_after dirty (last + 1) change) (last + 1) changes

-- the dirty blocks after commands with the numbers after `last`
abbrev pub dirty_blocks : ℕ → List Change → Dirty
dirty_blocks last changes = dirty_from empty last changes

-- Whether N frames are enough for the dirty blocks once a command has this number: those that were dirty and those that it
-- writes, a block in both once. What it clears isn't taken off, and a clear without edges needs no frame.
abbrev pub frames_suffice : ℕ → Dirty → ℕ → Change → Bool
frames_suffice frames dirty number (Written first bytes) = nat_le (len (with_written dirty number (Written first bytes))) frames
frames_suffice frames dirty number (Cleared first blocks kind) = true
frames_suffice frames dirty number (Edged first blocks kind edges bytes) =
    nat_le (len (with_written dirty number (Edged first blocks kind edges bytes))) frames

-- the number of the last of the commands that touches the block, where that one writes it; they have the numbers after `last`
abbrev pub last_write : ℕ → ℕ → List Change → Option ℕ
last_write block last [] = None
last_write block last (change ∷ later) =
    if list_any (touches block) later then last_write block (last + 1) later
    else (if writes block change then Some (last + 1) else None)
