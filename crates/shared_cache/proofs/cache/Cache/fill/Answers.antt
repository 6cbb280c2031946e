use Rattle.std.proofs.Common.{ap, rules}
use Rattle.shared_cache.specs.Cache.{CacheState}
use Rattle.shared_cache.specs.laws.Views.{once_seen, shows_fill}
use Rattle.shared_cache.proofs.cache.Cache.fill.Goals as goal

pub returns-clause-view : goal.returns-clause-view
returns-clause-view c =
    shows_fill c.args.block c.args.bytes.now c.args.self.now _
    (once_seen c.self.inside.held _ c.self.invariant.held_kept (ap (λ (cache : CacheState). cache.blocks) c.self.view_is))
    c.requires.data (search rules)
