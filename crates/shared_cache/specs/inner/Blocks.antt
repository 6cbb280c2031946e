-- Definitions for contracts between functions of this crate, next to those of `Blocks`.
use Rattle.std.specs.Prelude.{◌≡◌, ◌≤◌, ◌+◌, drop, ℕ, ◌≢◌}
use Rattle.shared_cache.specs.Blocks.{BlocksState, taken}
use Rattle.shared_cache.specs.CachedBlocks.{CachedState, block_at, held_times}

-- The block isn't held.
abbrev pub IsMissing : ℕ → CachedState → Type 0
IsMissing block held = (frame : ℕ) → 1 ≤ held_times frame held.pool → block_at held.blocks frame ≢ block

-- the frame of the clean front is free
abbrev pub evicted : BlocksState → BlocksState
evicted blocks = record { free = blocks.free + 1; clean = drop 1 blocks.clean; dirty = blocks.dirty }

-- A frame was made free, which `taken` then takes.
abbrev pub taken_leaves : BlocksState → BlocksState → Type 0
taken_leaves old new = (taken new ≡ taken old) × (1 ≤ new.free) × (new.dirty ≡ old.dirty)
