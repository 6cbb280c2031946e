use Rattle.std.proofs.Common.{◌≤◌, subst}
use Rattle.frame_pool.specs.Lists.{times}
use Rattle.shared_cache.specs.CachedBlocks.{CachedState}
use Rattle.shared_cache.specs.laws.Indexed.{front_times}
use Rattle.shared_cache.proofs.cached_blocks.CachedBlocks.take.Goals as goal

pub returns-in-Ok-clause-free : goal.returns-in-Ok-clause-free
returns-in-Ok-clause-free c =
    let P : CachedState → Type 0 = λ held. 1 ≤ times c.in-Ok.frame held.pool.free in
    subst P c.self.view_is (front_times c.in-Ok.frame c.self.inside.pool.free c.in-Ok.ensures.front)
