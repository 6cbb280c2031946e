use Rattle.std.proofs.Common.{nat_eq, set}
use Rattle.std.specs.HashMap as hash
use Rattle.shared_cache.specs.CachedBlocks.{IsIndexed}
use Rattle.shared_cache.specs.laws.Indexed.{IsHeld_indexed, indexed-assign_dirty, free_seen, missing_seen}
use Rattle.shared_cache.proofs.cached_blocks.CachedBlocks.assign_dirty.Goals as goal

indexed_now : (c : goal.After-write_dirty) → IsIndexed c.write_dirty.new.self (set c.self.inside.blocks.items c.args.frame c.args.block) (hash.get nat_eq c.set.new.index)
indexed_now c =
    indexed-assign_dirty _ _ _ _ _ c.args.frame c.args.block c.args.number c.args.bytes.now c.self.invariant c.write_dirty.ensures.written c.write_dirty.ensures.pool
    (free_seen c.args.frame _ _ c.self.view_is c.requires.free) (missing_seen c.args.block _ _ c.self.view_is c.requires.missing) c.set.ensures.found

pub invariant_of-self : goal.invariant_of-self
invariant_of-self c = indexed_now c

pub returns-clause-held : goal.returns-clause-held
returns-clause-held c = IsHeld_indexed _ _ _ _ (indexed_now c)
