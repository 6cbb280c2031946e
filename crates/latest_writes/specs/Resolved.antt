-- The last touches of an area as callers see them, and what is kept with them.
use Rattle.std.specs.Prelude.{ℕ, ◌≡◌, ◌≤◌, List, sum_by}
use Rattle.latest_writes.specs.declared.range.LastRange.{LastRange}
use Rattle.latest_writes.specs.declared.range.PutRange.{PutRange}
use Rattle.latest_writes.specs.Puts.{puts_of}
use Rattle.latest_writes.specs.Ranges.{AreLongest, AreRanges}

-- the last touches of the blocks before `blocks`, as ranges
pub record ResolvedTouches : Type 0 where
  pub blocks : ℕ
  pub ranges : List LastRange

-- the ranges are apart and as long as can be, and what is kept of their puts is theirs
pub record IsResolved (blocks : ℕ) (ranges : List LastRange) (puts : List PutRange) (blocks_to_copy : ℕ) : Type 0 where
  pub blocks_fit : blocks ≤ 4294967295
  pub apart : AreRanges 0 blocks ranges
  pub longest : AreLongest ranges
  pub puts_are : puts ≡ puts_of ranges
  pub copies_are : blocks_to_copy ≡ sum_by (λ put. put.blocks) puts
