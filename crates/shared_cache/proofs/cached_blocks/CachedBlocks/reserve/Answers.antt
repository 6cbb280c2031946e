use Rattle.shared_cache.specs.laws.Indexed.{indexed_agree}
use Rattle.shared_cache.proofs.cached_blocks.CachedBlocks.reserve.Goals as goal

pub invariant_of-self : goal.invariant_of-self
invariant_of-self c = indexed_agree _ _ _ _ c.self.invariant c.reserve.ensures.entries.2
