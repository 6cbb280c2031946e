use Rattle.std.proofs.Common.{ℕ, ◌≡◌, length, IfOk, sym, ◌∙◌, ap, subst}
use Rattle.device_image.specs.Keeper.{AreStatesAfter, PlanState}
use Rattle.latest_writes.specs.Ranges.{AreLastTouches}
use Rattle.device_image.specs.Plan.{told_by}
use Rattle.device_image.proofs.MapAfterArea.{laid_of}
use Rattle.device_image.proofs.plan.CopyPlan.map_after.Goals as goal

pub returns : goal.returns
returns c =
    let inside = c.self.inside in
    let count : inside.touches.blocks ≡ length c.args.map.now = ap (λ (plan : PlanState). plan.first.blocks) c.self.view_is ∙ sym c.requires in
    subst (λ (plan : PlanState). IfOk c.apply_touches.result (AreStatesAfter plan.first.touched c.args.map.now)) c.self.view_is
    (laid_of _ inside.start (told_by inside.start inside.touches.ranges) inside.touches.ranges c.args.map.now
    (subst (λ (blocks : ℕ). AreLastTouches inside.start blocks (told_by inside.start inside.touches.ranges) inside.touches.ranges) count c.self.invariant.last) c.apply_touches.ensures)
