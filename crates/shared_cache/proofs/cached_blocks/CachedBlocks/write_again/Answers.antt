use Rattle.std.proofs.Common.{nat_eq}
use Rattle.std.specs.HashMap as hash
use Rattle.shared_cache.specs.CachedBlocks.{IsIndexed}
use Rattle.shared_cache.specs.laws.Indexed.{IsHeld_indexed, indexed-write_again, held_seen}
use Rattle.shared_cache.proofs.cached_blocks.CachedBlocks.write_again.Goals as goal

indexed_now : (c : goal.After-write_dirty) → IsIndexed c.write_dirty.new.self c.self.inside.blocks.items (hash.get nat_eq c.self.inside.frames)
indexed_now c =
    indexed-write_again _ _ _ _ c.args.frame c.args.number c.args.bytes.now c.self.invariant c.write_dirty.ensures.written c.write_dirty.ensures.pool
    (held_seen c.args.frame _ _ c.self.view_is c.requires.held)

pub invariant_of-self : goal.invariant_of-self
invariant_of-self c = indexed_now c

pub returns-clause-held : goal.returns-clause-held
returns-clause-held c = IsHeld_indexed _ _ _ _ (indexed_now c)
