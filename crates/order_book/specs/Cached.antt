-- what commands make of what is in memory of an image
use Rattle.std.specs.Prelude.{ℕ, ◌≡◌, ◌+◌, ◌/◌, true, false, if◌then◌else◌, List, length, map, replicate, take, drop, Option, Some, None}
use Rattle.std.specs.FinMap.{from_entries}
use Rattle.std.specs.Simd.{first_chunks}
use Rattle.alloc_map.specs.Codes.{state_at}
use Rattle.image_model.specs.declared.command.Edges.{Edges}
use Rattle.image_model.specs.declared.command.Edges.TheVariants.{Head, Tail, Both}
use Rattle.image_model.specs.Change.{Change, Written, Cleared, Edged, edge_count}
use Rattle.image_model.specs.Dirty.{Dirty}
use Rattle.image_model.specs.Image.{blocks_of, data_of, kind_given, kind_in, slot, touches, writes}
use Rattle.shared_cache.specs.Blocks.{DirtyBlock, cleaned, is_dirty, is_cached}
use Rattle.shared_cache.specs.Cache.{CacheState, bytes_seen, with_cleared, with_edges, with_written}
use Rattle.shared_cache.specs.View.{KeepsBytes}

-- the bytes of a write, block by block
abbrev pub blocks_in : List ℕ → List (List ℕ)
blocks_in bytes = first_chunks 4096 ((length bytes + 4095) / 4096) bytes

-- how many of a clear's edges stand at its head
abbrev pub head_count : Edges → ℕ
head_count Head = 1
head_count Tail = 0
head_count Both = 1

-- the cache after a command with this number
abbrev pub cache_after : CacheState → ℕ → Change → CacheState
cache_after cache number (Written first bytes) = with_written number first (blocks_in bytes) cache
cache_after cache number (Cleared first blocks kind) = with_cleared first blocks kind cache
cache_after cache number (Edged first blocks kind edges bytes) =
    with_edges number first blocks kind (take (head_count edges) (blocks_in bytes)) (drop (head_count edges) (blocks_in bytes)) cache

-- the bytes of a block that is touched: 4,096 from its slot on, or zeros
abbrev pub bytes_in : Option ℕ → List ℕ → List ℕ
bytes_in None bytes = replicate 4096 0
bytes_in (Some at) bytes = take 4096 (drop at bytes)

-- how many blocks a command writes
abbrev pub count_written : Change → ℕ
count_written (Written first bytes) = blocks_of (Written first bytes)
count_written (Cleared first blocks kind) = 0
count_written (Edged first blocks kind edges bytes) = edge_count edges

-- What is known of the image after a command, block by block. A touched block that it writes is data, has its bytes and is
-- dirty; another one has the command's state, is zero, and no frame holds it. Each other block keeps its state, its bytes, but
-- for a taken frame, and whether it is dirty.
pub record ShowsCommand (change : Change) (old new : CacheState) : Type 0 where
  pub states : (block : ℕ) → state_at new.states block
      ≡ (if touches block change then kind_in (slot block change) (kind_given change) else state_at old.states block)
  pub touched : (block : ℕ) → touches block change ≡ true → bytes_seen new block ≡ Some (bytes_in (slot block change) (data_of change))
  pub cleared : (block : ℕ) → touches block change ≡ true → writes block change ≡ false → is_cached block new.blocks ≡ false
  pub others : (block : ℕ) → touches block change ≡ false → KeepsBytes (count_written change) old new block
  pub dirty : (block : ℕ) → is_dirty block new.blocks ≡ (if touches block change then writes block change else is_dirty block old.blocks)

-- the cache once the dirty blocks up to a number are clean
abbrev pub cache_cleaned : CacheState → ℕ → CacheState
cache_cleaned cache number = record { states = cache.states; blocks = cleaned number cache.blocks }

-- the dirty blocks, each with the number of the command that wrote it
abbrev pub dirty_of : CacheState → Dirty
dirty_of cache = from_entries (map (λ (held : DirtyBlock). (held.block, held.number)) cache.blocks.dirty)

-- how many frames there are
abbrev pub frames_of : CacheState → ℕ
frames_of cache = cache.blocks.free + length cache.blocks.clean + length cache.blocks.dirty
