-- what a read that goes to the device makes of what is in memory of an image
use Rattle.std.specs.Prelude.{ℕ, zero, suc, ◌≡◌, ◌+◌, ◌*◌, ◌/◌, ◌<◌, ◌≤◌, ◌⊎◌, ◌&&◌, ◌==◌, not, if◌then◌else◌, Bool, true, false, List, length, slice_index, take, drop, Some, None}
use Rattle.std.specs.FinMap.{get}
use Rattle.alloc_map.specs.Codes.{state_at}
use Rattle.device_image.specs.Holds.{is_written}
use Rattle.image_model.specs.Change.{Change}
use Rattle.image_model.specs.Dirty.{Dirty}
use Rattle.image_model.specs.Image.{Image}
use Rattle.image_model.specs.declared.command.Kind.{Kind}
use Rattle.image_model.specs.declared.command.Kind.TheVariants.{Data, Zero, Hole}
use Rattle.order_book.specs.Cached.{frames_of}
use Rattle.order_book.specs.declared.kept.Kept.{Kept}
use Rattle.order_book.specs.declared.kept.Kept.TheVariants.{All, NoMemory}
use Rattle.order_book.specs.declared.span.Span.{Span}
use Rattle.shared_cache.specs.Blocks.{available_frames, is_dirty, with_fill}
use Rattle.shared_cache.specs.Cache.{CacheState, bytes_seen}

abbrev pub is_data : Kind → Bool
is_data Data = true
is_data Zero = false
is_data Hole = false

-- the bytes of a block among those of blocks in a row
abbrev pub block_of : List ℕ → ℕ → List ℕ
block_of bytes offset = take 4096 (drop (4096 * offset) bytes)

-- The block is one of those from the first one on, and known are the bytes that were read of it.
abbrev pub IsRead : ℕ → List ℕ → CacheState → ℕ → Type 0
IsRead first bytes cache block =
    (offset : ℕ) × (4096 * offset < length bytes) × (block ≡ first + offset) × (bytes_seen cache block ≡ Some (block_of bytes offset))

-- A block keeps its bytes, or its frame was clean and was taken, or it was read.
abbrev pub KeepsOrReads : ℕ → List ℕ → CacheState → CacheState → ℕ → Type 0
KeepsOrReads first bytes old new block =
    (bytes_seen new block ≡ bytes_seen old block)
    ⊎ (((is_dirty block old.blocks ≡ false) × (bytes_seen new block ≡ None)) ⊎ IsRead first bytes new block)

-- Blocks from the first one on were read, and kept where a frame was there: each state stays and what is dirty, and no frame is
-- lost.
pub record ShowsRead (first : ℕ) (bytes : List ℕ) (old new : CacheState) : Type 0 where
  pub states : new.states ≡ old.states
  pub dirty : new.blocks.dirty ≡ old.blocks.dirty
  pub frames : frames_of new ≡ frames_of old
  pub each : (block : ℕ) → KeepsOrReads first bytes old new block

-- A block that was read, once it is kept: where it is data and no frame holds it, in a free frame, else in that of the clean
-- front; where there is neither, or it is held or no data, nothing changes.
abbrev pub with_kept : ℕ → List ℕ → CacheState → CacheState
with_kept block bytes cache =
    if is_data (state_at cache.states block) && not (available_frames cache.blocks == 0)
    then record { states = cache.states; blocks = with_fill block bytes cache.blocks }
    else cache

-- the first N of the blocks that were read, kept one after another
abbrev pub with_all_kept : ℕ → List ℕ → ℕ → CacheState → CacheState
with_all_kept first bytes zero cache = cache
with_all_kept first bytes (suc count) cache = with_kept (first + count) (block_of bytes count) (with_all_kept first bytes count cache)

-- What is in memory of blocks that were read: all that there are frames for, or, where memory was refused, of some first ones.
abbrev pub IsKept : ℕ → List ℕ → CacheState → CacheState → Kept → Type 0
IsKept first bytes old new All = new ≡ with_all_kept first bytes (length bytes / 4096) old
IsKept first bytes old new NoMemory = (count : ℕ) × (4096 * count < length bytes) × (new ≡ with_all_kept first bytes count old)

-- Blocks of the image that are data and not dirty are at the base as the image has them, and no command before the last area
-- writes one.
pub record IsCleanAt (base : Image) (front : List Change) (image : Image) (dirty : Dirty) : Type 0 where
  pub kinds : (block : ℕ) → image.kind block ≡ Data → get dirty block ≡ None → base.kind block ≡ Data
  pub unwritten : (block : ℕ) → image.kind block ≡ Data → get dirty block ≡ None → is_written block front ≡ false
  pub bytes : (block : ℕ) → image.kind block ≡ Data → get dirty block ≡ None
      → (k : ℕ) → k < 4096 → base.byte (4096 * block + k) ≡ image.byte (4096 * block + k)

-- the block is one of the span's
abbrev pub LiesIn : ℕ → Span → Type 0
LiesIn block span = (span.first ≤ block) × (block < span.end)

-- Bytes that were handed in for blocks from the first one on are those of the base, for each that isn't in memory, is data at the
-- base, and that no command before the last area writes. Of bytes that a second handle of the device has read while nobody
-- wrote such a block this is what is trusted, and all.
abbrev pub GivesBase : ℕ → List ℕ → CacheState → Image → List Change → Type 0
GivesBase first bytes cache base front =
    (j k : ℕ) → 4096 * j < length bytes → k < 4096 → bytes_seen cache (first + j) ≡ None
    → base.kind (first + j) ≡ Data → is_written (first + j) front ≡ false
    → slice_index bytes (4096 * j + k) ≡ base.byte (4096 * (first + j) + k)
