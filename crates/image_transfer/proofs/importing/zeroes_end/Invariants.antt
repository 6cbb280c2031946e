use Rattle.std.proofs.Common.{◌-◌, ◌≤◌}
use Rattle.image_transfer.specs.inner.Import.{AreZeroBlocks}
use Rattle.image_transfer.proofs.importing.zeroes_end.Given as goal

abbrev pub invariant-loop-end : goal.invariant-loop-end
invariant-loop-end l = record {
  low : l.from ≤ l.end;
  high : l.end ≤ l.to;
  zeroes : AreZeroBlocks l.bytes l.from l.end;
}

abbrev pub decreases-loop-end : goal.decreases-loop-end
decreases-loop-end l = l.to - l.end
