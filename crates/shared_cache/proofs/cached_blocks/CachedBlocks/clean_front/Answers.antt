use Rattle.std.proofs.Common.{nat_eq}
use Rattle.std.specs.HashMap as hash
use Rattle.shared_cache.specs.CachedBlocks.{IsIndexed}
use Rattle.shared_cache.specs.laws.Indexed.{IsHeld_indexed, indexed-clean_front}
use Rattle.shared_cache.proofs.cached_blocks.CachedBlocks.clean_front.Goals as goal

indexed_now : (c : goal.After-pop_clean_through) → IsIndexed c.pop_clean_through.new.self c.self.inside.blocks.items (hash.get nat_eq c.self.inside.frames)
indexed_now c =
    indexed-clean_front _ _ _ _ c.args.number c.pop_clean_through.result c.self.invariant c.pop_clean_through.ensures.pool c.pop_clean_through.ensures.front
    c.pop_clean_through.ensures.moved c.pop_clean_through.ensures.none

pub invariant_of-self : goal.invariant_of-self
invariant_of-self c = indexed_now c

pub returns-clause-held : goal.returns-clause-held
returns-clause-held c = IsHeld_indexed _ _ _ _ (indexed_now c)
