-- what is known of an image block by block, before a call and after it
use Rattle.std.specs.Prelude.{ℕ, ◌≡◌, ◌≢◌, ◌+◌, ◌-◌, ◌<◌, ◌⊎◌, ◌==◌, ◌&&◌, ◌||◌, Bool, not, true, false, nat_lt, if◌then◌else◌, List, length, replicate, slice_index_or, Some, None}
use Rattle.std.specs.List.{list_any}
use Rattle.alloc_map.specs.Codes.{state_at}
use Rattle.image_model.specs.declared.command.Kind.{Kind}
use Rattle.image_model.specs.declared.command.Kind.TheVariants.{Data}
use Rattle.image_model.specs.Image.{covers}
use Rattle.shared_cache.specs.Blocks.{DirtyBlock, is_dirty, is_cached}
use Rattle.shared_cache.specs.Cache.{CacheState, bytes_seen}

-- The bytes of a block are those that they were, or they are in memory no more: its frame was clean, and was taken since
-- fewer frames were free than are wanted for this many blocks.
abbrev pub KeepsBytes : ℕ → CacheState → CacheState → ℕ → Type 0
KeepsBytes count old new block =
    (bytes_seen new block ≡ bytes_seen old block)
    ⊎ ((is_dirty block old.blocks ≡ false) × (old.blocks.free < count) × (bytes_seen new block ≡ None))

-- Blocks were written: they are data, have these bytes and are dirty. Each other block keeps its state, its bytes, but for a
-- taken frame, and whether it is dirty.
pub record ShowsPut (first : ℕ) (blocks : List (List ℕ)) (old new : CacheState) : Type 0 where
  pub states : (block : ℕ) → state_at new.states block ≡ (if covers first (length blocks) block then Data else state_at old.states block)
  pub written : (k : ℕ) (d : List ℕ) → k < length blocks → bytes_seen new (first + k) ≡ Some (slice_index_or blocks k d)
  pub others : (block : ℕ) → covers first (length blocks) block ≡ false → KeepsBytes (length blocks) old new block
  pub dirty : (block : ℕ) → is_dirty block new.blocks ≡ (covers first (length blocks) block || is_dirty block old.blocks)

-- Blocks were cleared: they have this state, are zero, and no frame holds one. Each other block keeps its state, its bytes, and
-- whether it is dirty.
pub record ShowsClear (first count : ℕ) (kind : Kind) (old new : CacheState) : Type 0 where
  pub states : (block : ℕ) → state_at new.states block ≡ (if covers first count block then kind else state_at old.states block)
  pub zero_bytes : (block : ℕ) → covers first count block ≡ true → bytes_seen new block ≡ Some (replicate 4096 0)
  pub no_frame : (block : ℕ) → covers first count block ≡ true → is_cached block new.blocks ≡ false
  pub others : (block : ℕ) → covers first count block ≡ false → bytes_seen new block ≡ bytes_seen old block
  pub dirty : (block : ℕ) → covers first count block ≡ false → is_dirty block new.blocks ≡ is_dirty block old.blocks

-- whether a block is one of the edges of a range: this many blocks at its head, and this many at its tail
abbrev pub is_edge : ℕ → ℕ → ℕ → ℕ → ℕ → Bool
is_edge first count head tail block = covers first head block || covers (first + count - tail) tail block

-- A range was cleared between its edges, which were written: the edges are data, have these bytes and are dirty, and the blocks
-- between have this state, are zero, and no frame holds one. Each other block keeps its state, its bytes, but for a taken frame,
-- and whether it is dirty.
pub record ShowsEdges (first count : ℕ) (kind : Kind) (head tail : List (List ℕ)) (old new : CacheState) : Type 0 where
  pub states : (block : ℕ) → state_at new.states block
      ≡ (if is_edge first count (length head) (length tail) block then Data else (if covers first count block then kind else state_at old.states block))
  pub at_head : (k : ℕ) (d : List ℕ) → k < length head → bytes_seen new (first + k) ≡ Some (slice_index_or head k d)
  pub at_tail : (k : ℕ) (d : List ℕ) → k < length tail → bytes_seen new (first + count - length tail + k) ≡ Some (slice_index_or tail k d)
  pub between : (block : ℕ) → covers first count block ≡ true → is_edge first count (length head) (length tail) block ≡ false
      → (bytes_seen new block ≡ Some (replicate 4096 0)) × (is_cached block new.blocks ≡ false)
  pub others : (block : ℕ) → covers first count block ≡ false → KeepsBytes (length head + length tail) old new block
  pub dirty : (block : ℕ) → is_dirty block new.blocks
      ≡ (is_edge first count (length head) (length tail) block || (not (covers first count block) && is_dirty block old.blocks))

-- A block of data was read: it has these bytes, where no frame held it. Each other block keeps its bytes, but for a taken frame,
-- and the same blocks are dirty.
pub record ShowsFill (block : ℕ) (bytes : List ℕ) (old new : CacheState) : Type 0 where
  pub states : new.states ≡ old.states
  pub filled : bytes_seen new block ≡ (if is_cached block old.blocks then bytes_seen old block else Some bytes)
  pub others : (other : ℕ) → other ≢ block → KeepsBytes 1 old new other
  pub dirty : (other : ℕ) → is_dirty other new.blocks ≡ is_dirty other old.blocks

-- Each block keeps its state and its bytes; dirty are those still that a command above this number wrote.
pub record ShowsClean (number : ℕ) (old new : CacheState) : Type 0 where
  pub states : new.states ≡ old.states
  pub bytes : (block : ℕ) → bytes_seen new block ≡ bytes_seen old block
  pub dirty : (block : ℕ) → is_dirty block new.blocks ≡ list_any (λ (held : DirtyBlock). (held.block == block) && nat_lt number held.number) old.blocks.dirty
