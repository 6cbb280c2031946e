use Rattle.std.proofs.Common.{◌≡◌, None, sym, subst, arith}
use Rattle.device_image.specs.Keeper.{PlanState}
use Rattle.device_image.specs.Plan.{IsNextCopy}
use Rattle.device_image.proofs.NextCopy.{advanced}
use Rattle.device_image.proofs.plan.CopyPlan.advance.Goals as goal

pub overflow_add-self : goal.overflow_add-self
overflow_add-self c = omega (arith, c.requires.next.fits)

pub invariant_of-self : goal.invariant_of-self
invariant_of-self c =
    let next = subst (λ (plan : PlanState). IsNextCopy plan c.args.put.blocks c.args.put) (sym c.self.view_is) c.requires.next in
    let none = subst (λ (plan : PlanState). plan.mapped ≡ None) (sym c.self.view_is) c.requires.unmapped in
    advanced _ c.self.inside.touches c.self.invariant c.args.put c.args.put.blocks next none
