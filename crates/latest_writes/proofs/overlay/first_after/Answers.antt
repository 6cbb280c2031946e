use Rattle.std.proofs.Common.{◌∙◌}
use Rattle.latest_writes.proofs.NewerOverOlder.{pass_range}
use Rattle.latest_writes.proofs.overlay.first_after.Goals as goal

pub loop-range-preserved : goal.loop-range-preserved
loop-range-preserved c =
    let known = c.loop-range.invariant in
    let passed = pass_range _ _ c.in-Some.range c.args.block c.in-Some.ensures.some known.0 (rw c.end.ensures at c.if-block-end.false) in
    (passed.0, λ place high. passed.1 place high ∙ known.1 place high)
