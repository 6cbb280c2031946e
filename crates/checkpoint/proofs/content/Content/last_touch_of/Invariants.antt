use Rattle.std.proofs.Common.{◌≤◌, length}
use Rattle.checkpoint.proofs.content.Content.last_touch_of.Given as goal

abbrev pub invariant-loop-index : goal.invariant-loop-index
invariant-loop-index l = l.index ≤ length l.self.areas.items

abbrev pub decreases-loop-index : goal.decreases-loop-index
decreases-loop-index l = l.index
