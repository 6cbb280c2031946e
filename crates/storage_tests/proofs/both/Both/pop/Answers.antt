use Rattle.storage_tests.proofs.Order.{popped}
use Rattle.storage_tests.proofs.both.Both.pop.Goals as goal

pub invariant_of-self : goal.invariant_of-self
invariant_of-self c = record { order = popped _ c.args.self.now.pool _ c.pop_clean_through-popped.result c.pop_clean_through-popped.ensures.moved c.pop_clean_through-popped.ensures.none c.args.self.now.order }
