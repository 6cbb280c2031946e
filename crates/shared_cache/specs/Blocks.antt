-- the blocks that frames hold
use Rattle.std.specs.Prelude.{ℕ, zero, suc, ◌≡◌, ◌≤◌, ◌+◌, ◌-◌, ◌==◌, ◌||◌, not, nat_le, nat_lt, if◌then◌else◌, Bool, false, Option, None, Some, List, [], ◌∷◌, ◌++◌, length, map, filter, drop}
use Rattle.std.specs.List.{list_any}

-- a block whose frame is clean, and one whose frame is dirty, with the number of the command that wrote it
pub record CleanBlock : Type 0 where
  pub block : ℕ
  pub bytes : List ℕ

pub record DirtyBlock : Type 0 where
  pub block : ℕ
  pub number : ℕ
  pub bytes : List ℕ

-- how many frames hold no block; the blocks of the clean frames and of the dirty ones, each list from its front to its back
pub record BlocksState : Type 0 where
  pub free : ℕ
  pub clean : List CleanBlock
  pub dirty : List DirtyBlock

-- a dirty block as one whose number is of no matter
abbrev pub as_clean : DirtyBlock → CleanBlock
as_clean held = record { block = held.block; bytes = held.bytes }

-- the blocks that are held, and how often a block is one of them
abbrev pub all_held : BlocksState → List CleanBlock
all_held blocks = blocks.clean ++ map as_clean blocks.dirty

abbrev pub times_in : ℕ → List CleanBlock → ℕ
times_in block [] = 0
times_in block (held ∷ rest) = (if held.block == block then 1 else 0) + times_in block rest

-- Each block is held once at most: no two frames hold one block.
pub record IsOnce (blocks : BlocksState) : Type 0 where
  pub once : (block : ℕ) → times_in block (all_held blocks) ≤ 1

-- the blocks that are in none of these places
abbrev pub clean_outside : (ℕ → Bool) → List CleanBlock → List CleanBlock
clean_outside inside clean = filter (λ (held : CleanBlock). not (inside held.block)) clean

abbrev pub dirty_outside : (ℕ → Bool) → List DirtyBlock → List DirtyBlock
dirty_outside inside dirty = filter (λ (held : DirtyBlock). not (inside held.block)) dirty

-- these blocks let go; their frames are free
abbrev pub without : (ℕ → Bool) → BlocksState → BlocksState
without inside blocks = record {
  free = blocks.free + (length blocks.clean + length blocks.dirty - (length (clean_outside inside blocks.clean) + length (dirty_outside inside blocks.dirty)));
  clean = clean_outside inside blocks.clean;
  dirty = dirty_outside inside blocks.dirty;
}

-- a frame taken: a free one, else that of the clean front, whose block is let go
abbrev pub taken : BlocksState → BlocksState
taken blocks = record { free = blocks.free - 1; clean = drop (1 - blocks.free) blocks.clean; dirty = blocks.dirty }

-- a block written by the command with this number: in its own frame, else in one that is taken
abbrev pub with_put : ℕ → ℕ → List ℕ → BlocksState → BlocksState
with_put number block bytes blocks =
    let rest = taken (without (λ other. other == block) blocks) in
    record { free = rest.free; clean = rest.clean; dirty = rest.dirty ++ record { block = block; number = number; bytes = bytes } ∷ [] }

-- the blocks from the first one on written, one after another
abbrev pub with_puts : ℕ → ℕ → List (List ℕ) → BlocksState → BlocksState
with_puts number first [] blocks = blocks
with_puts number first (bytes ∷ rest) blocks = with_puts number (first + 1) rest (with_put number first bytes blocks)

-- whether a frame holds the block, and whether a dirty one does
abbrev pub is_clean : ℕ → BlocksState → Bool
is_clean block blocks = list_any (λ (held : CleanBlock). held.block == block) blocks.clean

abbrev pub is_dirty : ℕ → BlocksState → Bool
is_dirty block blocks = list_any (λ (held : DirtyBlock). held.block == block) blocks.dirty

abbrev pub is_cached : ℕ → BlocksState → Bool
is_cached block blocks = is_clean block blocks || is_dirty block blocks

-- a block that was read, in a frame that is taken; one that is held stays as it is
abbrev pub with_fill : ℕ → List ℕ → BlocksState → BlocksState
with_fill block bytes blocks =
    if is_cached block blocks then blocks
    else record { free = (taken blocks).free; clean = (taken blocks).clean ++ record { block = block; bytes = bytes } ∷ []; dirty = blocks.dirty }

-- the dirty blocks up to this number at the back of the clean ones
abbrev pub cleaned : ℕ → BlocksState → BlocksState
cleaned number blocks = record {
  free = blocks.free;
  clean = blocks.clean ++ map (λ (held : DirtyBlock). record { block = held.block; bytes = held.bytes }) (filter (λ (held : DirtyBlock). nat_le held.number number) blocks.dirty);
  dirty = filter (λ (held : DirtyBlock). nat_lt number held.number) blocks.dirty;
}

-- how many blocks of a range aren't dirty
abbrev pub count_missing : ℕ → ℕ → BlocksState → ℕ
count_missing first zero blocks = 0
count_missing first (suc count) blocks = (if is_dirty first blocks then 0 else 1) + count_missing (first + 1) count blocks

-- how many of the edges of a range aren't dirty: this many blocks at its head, and this many at its tail
abbrev pub edges_missing : ℕ → ℕ → ℕ → ℕ → BlocksState → ℕ
edges_missing first count head tail blocks = count_missing first head blocks + count_missing (first + count - tail) tail blocks

-- how many frames hold no dirty block
abbrev pub available_frames : BlocksState → ℕ
available_frames blocks = blocks.free + length blocks.clean

-- No frame can be taken for a block, which isn't held.
abbrev pub HasNoFrame : ℕ → BlocksState → Type 0
HasNoFrame block blocks = (is_cached block blocks ≡ false) × (blocks.free ≡ 0) × (blocks.clean ≡ [])

-- the bytes of a block that is held
abbrev pub clean_bytes : ℕ → List CleanBlock → Option (List ℕ)
clean_bytes block [] = None
clean_bytes block (held ∷ clean) = if held.block == block then Some held.bytes else clean_bytes block clean

abbrev pub dirty_bytes : ℕ → List DirtyBlock → Option (List ℕ)
dirty_bytes block [] = None
dirty_bytes block (held ∷ dirty) = if held.block == block then Some held.bytes else dirty_bytes block dirty

abbrev pub option_or : Option (List ℕ) → Option (List ℕ) → Option (List ℕ)
option_or None other = other
option_or (Some bytes) other = Some bytes

abbrev pub bytes_of : ℕ → BlocksState → Option (List ℕ)
bytes_of block blocks = option_or (clean_bytes block blocks.clean) (dirty_bytes block blocks.dirty)
