use Rattle.std.proofs.Common.{ap}
use Rattle.frame_pool.specs.Pool.{PoolState}
use Rattle.storage_tests.proofs.Order.{left}
use Rattle.storage_tests.proofs.both.Both.release.Goals as goal

pub invariant_of-self : goal.invariant_of-self
invariant_of-self c = record { order = left _ c.args.frame _ _ (ap (λ (pool : PoolState). pool.dirty) c.release.ensures.moved) c.args.self.now.order }
