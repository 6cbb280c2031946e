-- the numbers of dirty frames, kept for each frame
use Rattle.std.specs.Prelude.{ℕ, ◌≡◌, ◌==◌, ◌+◌, ◌<◌, ◌^◌, if◌then◌else◌, List, length, map, slice_index_or, Option, None, Some, is_some, unwrap_or}
use Rattle.std.specs.List.Sorted.{IsNonDecreasingBy}
use Rattle.frame_pool.specs.Lists.{ListsState, HoldEach, total, times}
use Rattle.frame_pool.specs.Pool.{DirtyFrame, PoolState}

-- a frame's number as it lies in memory, where 0 stands for none
abbrev pub option_of : ℕ → Option ℕ
option_of n = if n == 0 then None else Some n

abbrev pub kept_at : List (Option ℕ) → ℕ → Option ℕ
kept_at numbers frame = slice_index_or numbers frame None

abbrev pub number_at : List (Option ℕ) → ℕ → ℕ
number_at numbers frame = unwrap_or (kept_at numbers frame) 0

-- 1 where a number is kept, else 0
abbrev pub one_if_kept : Option ℕ → ℕ
one_if_kept number = if is_some number then 1 else 0

-- dirty frames with their numbers
abbrev pub numbered : List (Option ℕ) → List ℕ → List DirtyFrame
numbered numbers frames = map (λ frame. record { frame = frame; number = number_at numbers frame }) frames

abbrev pub pool_of : ListsState → List (Option ℕ) → List (List ℕ) → PoolState
pool_of lists numbers bytes = record { free = lists.free; clean = lists.clean; dirty = numbered numbers lists.dirty; bytes = bytes }

-- This many frames are in the lists, exactly the dirty ones have a number, and there are this many of these.
pub record AreNumbered (frames : ℕ) (lists : ListsState) (numbers : List (Option ℕ)) (dirty : ℕ) : Type 0 where
  pub few : frames + 3 < 2 ^ 32
  pub each : HoldEach lists
  pub count : total lists ≡ frames
  pub size : length numbers ≡ frames + 3
  pub kept : (frame : ℕ) → times frame lists.dirty ≡ one_if_kept (kept_at numbers frame)
  pub order : IsNonDecreasingBy (number_at numbers) lists.dirty
  pub dirty_count : dirty ≡ length lists.dirty
