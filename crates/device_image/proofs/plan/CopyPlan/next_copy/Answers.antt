use Rattle.std.proofs.Common.{◌≡◌, Option, None, sym, subst, arith}
use Rattle.std.specs.Prelude.{IfNone}
use Rattle.latest_writes.specs.declared.range.PutRange.{PutRange}
use Rattle.device_image.specs.Keeper.{PlanState}
use Rattle.device_image.specs.Plan.{IsNextCopy, remembered}
use Rattle.device_image.proofs.NextCopy.{next_copy, none_left, unmapped}
use Rattle.device_image.proofs.plan.CopyPlan.next_copy.Goals as goal

pub returns-in_err-put-clause-none : goal.returns-in_err-put-clause-none
returns-in_err-put-clause-none c =
    let inside = c.self.inside in
    let left = none_left (record { first = remembered inside.start inside.bytes inside.next inside.touches; copied = inside.copied; left = inside.left; mapped = inside.map }) inside.touches c.self.invariant c.in_err-put.ensures.none in
    subst (λ (found : Option PutRange). IfNone found (c.args.self.now.left ≡ 0)) (sym c.from_residual.ensures)
    (subst (λ (plan : PlanState). plan.left ≡ 0) c.self.view_is left)

pub returns-clause-some : goal.returns-clause-some
returns-clause-some c =
    subst (λ (plan : PlanState). IsNextCopy plan c.args.most (record { first = c.in_ok-put.put.first; blocks = c.min.result; place = c.in_ok-put.put.place })) c.self.view_is
    (next_copy _ c.self.inside.touches c.self.invariant c.in_ok-put.put c.in_ok-put.ensures.some c.args.most c.min.result c.requires c.min.ensures)

pub returns-clause-unmapped : goal.returns-clause-unmapped
returns-clause-unmapped c =
    let inside = c.self.inside in
    let plan : PlanState = record { first = remembered inside.start inside.bytes inside.next inside.touches; copied = inside.copied; left = inside.left; mapped = inside.map } in
    let next = next_copy plan inside.touches c.self.invariant c.in_ok-put.put c.in_ok-put.ensures.some c.args.most c.min.result c.requires c.min.ensures in
    subst (λ (plan : PlanState). plan.mapped ≡ None) c.self.view_is (unmapped plan inside.touches c.self.invariant (omega (arith, next.some, next.left)))
