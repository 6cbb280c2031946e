use Rattle.std.proofs.Common.{◌-◌, arith}
use Rattle.std.proofs.lemmas.Grind.{common_steps}
use Rattle.std.proofs.lemmas.List.Sums.{sum_by-take-drop}
use Rattle.order_book.proofs.order.Order.publish.Goals as goal

pub invariant_of-self : goal.invariant_of-self
invariant_of-self g c =
    let split = sum_by-take-drop (λ x. x) c.self.inside.backlog.bodies (c.count-count.result - c.self.inside.durable) in
    grind (arith, common_steps)
