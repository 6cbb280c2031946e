use Rattle.storage_tests.proofs.Order.{evicted}
use Rattle.storage_tests.proofs.both.Both.evict.Goals as goal

pub invariant_of-self : goal.invariant_of-self
invariant_of-self c = record { order = evicted _ c.args.self.now.pool _ c.evict_front.result c.evict_front.ensures.moved c.evict_front.ensures.err c.args.self.now.order }
