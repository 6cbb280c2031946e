-- what a cache knows of an image
use Rattle.std.specs.Prelude.{ℕ, ◌≡◌, ◌+◌, ◌-◌, ◌<◌, ◌≤◌, List, length, replicate, Option, Some, false}
use Rattle.alloc_map.specs.Codes.{state_at}
use Rattle.image_model.specs.declared.command.Kind.{Kind}
use Rattle.image_model.specs.declared.command.Kind.TheVariants.{Data, Zero, Hole}
use Rattle.image_model.specs.Image.{covers}
use Rattle.image_model.specs.Patched.{patched}
use Rattle.shared_cache.specs.Blocks.{BlocksState, bytes_of, is_cached, with_puts, without}
use Rattle.shared_cache.specs.CachedBlocks.{CachedState, IsHeld}

-- the current state of each block, and the blocks that are held
pub record CacheState : Type 0 where
  pub states : List Kind
  pub blocks : BlocksState

-- The image has no more blocks than a device, and each frame holds a block of its own.
pub record IsCache (states : List Kind) (held : CachedState) : Type 0 where
  pub few : length states ≤ 16777216
  pub held_kept : IsHeld held

-- the bytes of a block: those of its frame where it is data, else zero
abbrev pub bytes_for : Kind → Option (List ℕ) → Option (List ℕ)
bytes_for Data held = held
bytes_for Zero held = Some (replicate 4096 0)
bytes_for Hole held = Some (replicate 4096 0)

abbrev pub bytes_seen : CacheState → ℕ → Option (List ℕ)
bytes_seen cache block = bytes_for (state_at cache.states block) (bytes_of block cache.blocks)

-- the cache with blocks written by the command with this number, and with blocks cleared
abbrev pub with_written : ℕ → ℕ → List (List ℕ) → CacheState → CacheState
with_written number first blocks cache = record {
  states = patched cache.states first (replicate (length blocks) Data);
  blocks = with_puts number first blocks cache.blocks;
}

abbrev pub with_cleared : ℕ → ℕ → Kind → CacheState → CacheState
with_cleared first count kind cache = record {
  states = patched cache.states first (replicate count kind);
  blocks = without (covers first count) cache.blocks;
}

-- the cache with a range cleared between its edges: what lies between cleared, then the first blocks written, then the last
abbrev pub with_edges : ℕ → ℕ → ℕ → Kind → List (List ℕ) → List (List ℕ) → CacheState → CacheState
with_edges number first count kind head tail cache =
    let between = first + length head in
    let behind = first + count - length tail in
    with_written number behind tail (with_written number first head (with_cleared between (behind - between) kind cache))

-- One of this many blocks from the first one on is data, and no frame holds it.
abbrev pub LacksBytes : CacheState → ℕ → ℕ → Type 0
LacksBytes cache first count =
    (k : ℕ) × (k < count) × (state_at cache.states (first + k) ≡ Data) × (is_cached (first + k) cache.blocks ≡ false)
