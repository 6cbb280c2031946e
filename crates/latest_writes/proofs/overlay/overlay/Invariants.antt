use Rattle.std.proofs.Common.{◌≡◌, ◌-◌, ◌≤◌, ℕ, drop}
use Rattle.latest_writes.specs.Ranges.{AreLongest, AreRanges, touch_at}
use Rattle.latest_writes.specs.inner.Ranges.{AreLeft, left_at}
use Rattle.latest_writes.specs.Touches.{later}
use Rattle.latest_writes.proofs.overlay.overlay.Given as goal

abbrev pub invariant-loop-range : goal.invariant-loop-range
invariant-loop-range l = record {
  left : AreLeft (drop l.laid.older l.older) (drop l.laid.newer l.newer) l.laid.done;
  fits : l.laid.done ≤ 4294967295;
  apart : AreRanges 0 l.laid.done l.ranges.items;
  longest : AreLongest l.ranges.items;
  exact : (block : ℕ) → later (touch_at block l.older) (touch_at block l.newer)
      ≡ later (touch_at block l.ranges.items) (left_at (drop l.laid.older l.older) (drop l.laid.newer l.newer) l.laid.done block);
}

abbrev pub decreases-loop-range : goal.decreases-loop-range
decreases-loop-range l = 4294967295 - l.laid.done
