use Rattle.std.proofs.Common.{◌≡◌, ◌+◌, List, [], ◌∷◌, ◌++◌, take, sym, ◌∙◌, ap, subst}
use Rattle.std.proofs.lemmas.Result.{IfOk-from_err}
use Rattle.std.proofs.lemmas.List.{take_more}
use Rattle.device_image.specs.Keeper.{PlanState}
use Rattle.checkpoint.specs.inner.Report.{AreOf, AreStatesTurned}
use Rattle.checkpoint.proofs.ReportMatchesDevice.{of_at, turned_count, turned_more}
use Rattle.checkpoint.proofs.report.states_after_plans.Goals as goal

pub map_after-requires : goal.map_after-requires
map_after-requires c =
    let list = c.deref-plan-items.result.now in
    let blocks = c.args.area.now.blocks in
    let are = subst (AreOf blocks) (sym c.deref-plan-items.ensures.value) c.requires.plans in
    turned_count _ c.args.map c.loop-plan.turned c.loop-plan.invariant ∙ c.requires.count
    ∙ sym (ap (λ (plan : PlanState). plan.first.blocks) c.plan-item.is ∙ of_at blocks list c.loop-plan.plan-index c.plan-item.result are c.loop-plan-test.true)

pub loop-plan-preserved : goal.loop-plan-preserved
loop-plan-preserved c =
    let list = c.deref-plan-items.result.now in
    let index = c.loop-plan.plan-index in
    let plan = c.plan-item.result in
    let new = c.in_ok-turned.turned in
    let value = c.deref-plan-items.ensures.value in
    let so_far = subst (λ (l : List PlanState). AreStatesTurned (take index l) c.args.map c.loop-plan.turned) (sym value) c.loop-plan.invariant in
    let taken : take (index + 1) list ≡ take index list ++ plan ∷ [] = take_more list index plan c.loop-plan-test.true ∙ ap (λ (p : PlanState). take index list ++ p ∷ []) (sym c.plan-item.is) in
    subst (λ (l : List PlanState). AreStatesTurned (take (index + 1) l) c.args.map new) value
    (subst (λ (l : List PlanState). AreStatesTurned l c.args.map new) (sym taken) (turned_more (take index list) plan c.args.map c.loop-plan.turned new so_far c.in_ok-turned.ensures))

pub map_after_area-requires-clause-count : goal.map_after_area-requires-clause-count
map_after_area-requires-clause-count c = turned_count _ c.args.map c.loop-plan.turned c.loop-plan.invariant ∙ c.requires.count

pub returns-in_err-turned : goal.returns-in_err-turned
returns-in_err-turned c =
    IfOk-from_err c.from_residual.result _ c.from_residual.ensures.0
