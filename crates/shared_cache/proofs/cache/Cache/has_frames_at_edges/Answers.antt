use Rattle.std.proofs.Common.{ap}
use Rattle.shared_cache.specs.Cache.{CacheState}
use Rattle.shared_cache.specs.laws.Views.{once_seen}
use Rattle.shared_cache.proofs.cache.Cache.has_frames_at_edges.Goals as goal

pub returns-clause-once : goal.returns-clause-once
returns-clause-once c = once_seen c.self.inside.held _ c.self.invariant.held_kept (ap (λ (cache : CacheState). cache.blocks) c.self.view_is)
