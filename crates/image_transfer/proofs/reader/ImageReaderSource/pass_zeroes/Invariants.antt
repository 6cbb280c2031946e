use Rattle.std.proofs.Common.{◌≡◌, ◌-◌, ◌≤◌}
use Rattle.image_transfer.proofs.reader.ImageReaderSource.pass_zeroes.Given as goal

abbrev pub invariant-loop-passed : goal.invariant-loop-passed
invariant-loop-passed g l = l.passed ≤ l.most

abbrev pub decreases-loop-passed : goal.decreases-loop-passed
decreases-loop-passed g l = l.most - l.passed
