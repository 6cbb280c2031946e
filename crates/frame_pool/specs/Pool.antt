-- what a pool of frames holds
use Rattle.std.specs.Prelude.{ℕ, ◌≡◌, ◌==◌, not, nat_le, if◌then◌else◌, Bool, List, [], ◌∷◌, ◌++◌, length, map, filter, slice_set, Option, Some, None}
use Rattle.std.specs.List.{list_any}
use Rattle.std.specs.List.Sorted.{IsNonDecreasingBy}
use Rattle.frame_pool.specs.Lists.{ListsState, HoldEach, total, without}

-- a dirty frame, and the number of the command that wrote it
pub record DirtyFrame : Type 0 where
  pub frame : ℕ
  pub number : ℕ

-- the frames that are free, clean and dirty, each list from its front to its back, and the bytes of each frame
pub record PoolState : Type 0 where
  pub free : List ℕ
  pub clean : List ℕ
  pub dirty : List DirtyFrame
  pub bytes : List (List ℕ)

abbrev pub frames_of : List DirtyFrame → List ℕ
frames_of dirty = map (λ (held : DirtyFrame). held.frame) dirty

abbrev pub lists_in : PoolState → ListsState
lists_in pool = record { free = pool.free; clean = pool.clean; dirty = frames_of pool.dirty }

-- The lists together hold each frame once, and the numbers of the dirty ones don't fall.
pub record IsPool (pool : PoolState) : Type 0 where
  pub each : HoldEach (lists_in pool)
  pub count : total (lists_in pool) ≡ length pool.bytes
  pub order : IsNonDecreasingBy (λ (held : DirtyFrame). held.number) pool.dirty

-- the dirty frames without one
abbrev pub others : ℕ → List DirtyFrame → List DirtyFrame
others frame dirty = filter (λ (held : DirtyFrame). not (held.frame == frame)) dirty

-- whether a frame is dirty
abbrev pub is_dirty : ℕ → List DirtyFrame → Bool
is_dirty frame dirty = list_any (λ (held : DirtyFrame). held.frame == frame) dirty

-- the front of the dirty frames, where its number is at most this one
abbrev pub front_through : ℕ → List DirtyFrame → Option ℕ
front_through number [] = None
front_through number (held ∷ dirty) = if nat_le held.number number then Some held.frame else None

-- the pool with the frame at the back of the free ones, of the clean ones, and of the dirty ones with this number
abbrev pub with_free : ℕ → PoolState → PoolState
with_free frame pool = record {
  free = without frame pool.free ++ frame ∷ [];
  clean = without frame pool.clean;
  dirty = others frame pool.dirty;
  bytes = pool.bytes;
}

abbrev pub with_clean : ℕ → PoolState → PoolState
with_clean frame pool = record {
  free = without frame pool.free;
  clean = without frame pool.clean ++ frame ∷ [];
  dirty = others frame pool.dirty;
  bytes = pool.bytes;
}

abbrev pub with_dirty : ℕ → ℕ → PoolState → PoolState
with_dirty frame number pool = record {
  free = without frame pool.free;
  clean = without frame pool.clean;
  dirty = others frame pool.dirty ++ record { frame = frame; number = number } ∷ [];
  bytes = pool.bytes;
}

-- the pool with these bytes in the frame
abbrev pub with_bytes : ℕ → List ℕ → PoolState → PoolState
with_bytes frame bytes pool = record pool { bytes = slice_set pool.bytes frame bytes }
