use Rattle.std.proofs.Common.{◌≡◌, ◌-◌, ◌≤◌, ℕ, length, drop}
use Rattle.latest_writes.specs.Ranges.{AreRanges, touch_at}
use Rattle.latest_writes.proofs.overlay.first_after.Given as goal

abbrev pub invariant-loop-range : goal.invariant-loop-range
invariant-loop-range l =
    AreRanges 0 4294967295 (drop l.index l.ranges)
    × ((place : ℕ) → l.block ≤ place → touch_at place (drop l.index l.ranges) ≡ touch_at place (drop l.initial.index l.ranges))

abbrev pub decreases-loop-range : goal.decreases-loop-range
decreases-loop-range l = length l.ranges - l.index
