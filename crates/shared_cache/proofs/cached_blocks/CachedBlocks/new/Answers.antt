use Rattle.std.proofs.Common.{nat_eq, ap, ◌∙◌, length, refl}
use Rattle.std.specs.HashMap as hash
use Rattle.std.proofs.lemmas.List.{length-replicate}
use Rattle.shared_cache.specs.CachedBlocks.{IsIndexed}
use Rattle.shared_cache.specs.laws.Indexed.{indexed_made, IsHeld_indexed}
use Rattle.shared_cache.specs.laws.Kept.{blocks_of-fresh}
use Rattle.shared_cache.proofs.cached_blocks.CachedBlocks.new.Goals as goal

indexed_now : (c : goal.In_ok-with_capacity) → IsIndexed c.in_ok-new.field-0 c.in_ok-vec.field-0.items (hash.get nat_eq c.in_ok-with_capacity.field-0)
indexed_now c =
    indexed_made c.args.frames _ _ _ c.in_ok-new.ensures.pool c.in_ok-new.ensures.made
    (ap length (c.in_ok-vec.ensures.items_if_clones_equal (λ _ same. same)) ∙ length-replicate c.args.frames 0) (λ q. rw c.in_ok-with_capacity.ensures.empty refl)

pub invariant_of-result : goal.invariant_of-result
invariant_of-result c = indexed_now c

pub returns-clause-blocks : goal.returns-clause-blocks
returns-clause-blocks c = blocks_of-fresh c.args.frames _ _ _ c.in_ok-new.ensures.made

pub returns-clause-held : goal.returns-clause-held
returns-clause-held c = IsHeld_indexed _ _ _ _ (indexed_now c)
