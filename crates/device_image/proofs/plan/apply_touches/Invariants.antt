use Rattle.std.proofs.Common.{ℕ, take}
use Rattle.device_image.proofs.MapAfterArea.{IsLaid}
use Rattle.device_image.proofs.plan.apply_touches.Given as goal

abbrev pub invariant-loop-range : goal.invariant-loop-range
invariant-loop-range l = (from : ℕ) → IsLaid from (take l.range-index l.range-items) l.map l.after
