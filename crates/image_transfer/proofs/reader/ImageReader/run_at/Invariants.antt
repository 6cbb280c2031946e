use Rattle.std.proofs.Common.{◌-◌, ◌≤◌}
use Rattle.image_transfer.proofs.reader.ImageReader.run_at.Given as goal

abbrev pub invariant-loop-count : goal.invariant-loop-count
invariant-loop-count g l = (1 ≤ l.count) × (l.count ≤ l.most)

abbrev pub decreases-loop-count : goal.decreases-loop-count
decreases-loop-count g l = l.most - l.count
