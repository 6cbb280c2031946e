use Rattle.std.proofs.Common.{ap, rules}
use Rattle.shared_cache.specs.Cache.{CacheState}
use Rattle.shared_cache.specs.laws.Views.{once_seen, shows_clean}
use Rattle.shared_cache.proofs.cache.Cache.clean_through.Goals as goal

pub returns-clause-view : goal.returns-clause-view
returns-clause-view c =
    shows_clean c.args.number c.args.self.now _
    (once_seen c.self.inside.held _ c.self.invariant.held_kept (ap (λ (cache : CacheState). cache.blocks) c.self.view_is))
    (search rules)
