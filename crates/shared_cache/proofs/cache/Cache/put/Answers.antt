use Rattle.std.proofs.Common.{ap, rules}
use Rattle.shared_cache.specs.Cache.{CacheState}
use Rattle.shared_cache.proofs.FrameBytes.{order_seen}
use Rattle.shared_cache.specs.laws.Once.{held_once}
use Rattle.shared_cache.specs.laws.Views.{once_seen, shows_put}
use Rattle.shared_cache.proofs.cache.Cache.put.Goals as goal

pub put_all-requires-clause-order : goal.put_all-requires-clause-order
put_all-requires-clause-order c =
    rw c.in_ok-reserve.ensures.pool
    (order_seen c.self.inside.held.pool c.self.inside.held.blocks c.args.number _ (ap (λ (cache : CacheState). cache.blocks.dirty) c.self.view_is) c.requires.order)

pub returns-clause-view : goal.returns-clause-view
returns-clause-view c =
    shows_put c.args.number c.args.first c.args.blocks.now c.args.self.now _
    (once_seen c.self.inside.held _ c.self.invariant.held_kept (ap (λ (cache : CacheState). cache.blocks) c.self.view_is))
    c.requires.range (search rules)

pub returns-clause-once : goal.returns-clause-once
returns-clause-once c = held_once c.put_all.new.self c.put_all.ensures.held
