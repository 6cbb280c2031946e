use Rattle.std.proofs.Common.{nat_eq}
use Rattle.std.specs.HashMap as hash
use Rattle.shared_cache.specs.CachedBlocks.{IsIndexed}
use Rattle.shared_cache.specs.laws.Indexed.{IsHeld_indexed, indexed-free_frame, held_seen}
use Rattle.shared_cache.proofs.cached_blocks.CachedBlocks.free_frame.Goals as goal

indexed_now : (c : goal.After-release) → IsIndexed c.release.new.self c.self.inside.blocks.items (hash.get nat_eq c.unset.new.index)
indexed_now c =
    indexed-free_frame _ _ _ _ _ c.args.frame _ c.self.invariant c.release.ensures.moved c.release.ensures.pool
    (held_seen c.args.frame _ _ c.self.view_is c.requires) c.index.ensures c.unset.ensures.found

pub invariant_of-self : goal.invariant_of-self
invariant_of-self c = indexed_now c

pub returns-clause-held : goal.returns-clause-held
returns-clause-held c = IsHeld_indexed _ _ _ _ (indexed_now c)
