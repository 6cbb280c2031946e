-- Definitions for contracts between functions of this crate, next to those of `Ranges`.
use Rattle.std.specs.Prelude.{ℕ, ◌≡◌, ◌+◌, ◌<◌, ◌≤◌, nat_lt, if◌then◌else◌, List, Option, None}
use Rattle.latest_writes.specs.declared.touch.LastTouch.{LastTouch}
use Rattle.latest_writes.specs.declared.range.LastRange.{LastRange}
use Rattle.latest_writes.specs.Touches.{later, said_by}
use Rattle.latest_writes.specs.Ranges.{touch_at, IsRange, AreRanges, AreLongest}

-- the newer ranges laid over the older ones
pub record AreLaidOver (older newer ranges : List LastRange) : Type 0 where
  pub apart : AreRanges 0 4294967295 ranges
  pub longest : AreLongest ranges
  pub exact : (block : ℕ) → touch_at block ranges ≡ later (touch_at block older) (touch_at block newer)

-- what newer ranges laid over older ones say of the block, from `done` on
abbrev pub left_at : List LastRange → List LastRange → ℕ → ℕ → Option LastTouch
left_at older newer done block = if nat_lt block done then None else later (touch_at block older) (touch_at block newer)

-- older ranges, and newer ones from `done` on, that are still to be laid
pub record AreLeft (older newer : List LastRange) (done : ℕ) : Type 0 where
  pub older_apart : AreRanges 0 4294967295 older
  pub newer_apart : AreRanges done 4294967295 newer

-- the next range of what newer ranges laid over older ones say from `done` on
pub record IsNextLaid (older newer : List LastRange) (done : ℕ) (range : LastRange) (older_left newer_left : List LastRange) (done_after : ℕ) : Type 0 where
  pub is_range : IsRange range
  pub behind : done ≤ range.first
  pub end_is : done_after ≡ range.first + range.blocks
  pub exact : (block : ℕ) → left_at older newer done block
      ≡ later (said_by range.first range.blocks range.touch block) (left_at older_left newer_left done_after block)

-- blocks of a range that are from one block on and before another one, of which the ranges say the same
pub record IsPartOf (ranges : List LastRange) (from to : ℕ) (part : LastRange) : Type 0 where
  pub is_range : IsRange part
  pub behind : from ≤ part.first
  pub before : part.first + part.blocks ≤ to
  pub same : (block : ℕ) → from ≤ block → block < part.first + part.blocks
      → touch_at block ranges ≡ said_by part.first part.blocks part.touch block

-- a range ends before or at the block, or after it
abbrev pub RangeEndsBy : ℕ → LastRange → Type 0
RangeEndsBy block range = range.first + range.blocks ≤ block

abbrev pub RangeEndsBehind : ℕ → LastRange → Type 0
RangeEndsBehind block range = block < range.first + range.blocks
