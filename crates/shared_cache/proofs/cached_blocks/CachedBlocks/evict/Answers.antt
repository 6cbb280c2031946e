use Rattle.std.proofs.Common.{◌≤◌, nat_eq, ap, ◌∙◌, subst}
use Rattle.std.specs.HashMap as hash
use Rattle.shared_cache.specs.inner.Blocks.{evicted}
use Rattle.shared_cache.specs.CachedBlocks.{CachedState, IsIndexed, blocks_of, held_times}
use Rattle.shared_cache.specs.laws.Indexed.{IsHeld_indexed, held_before, free_now, indexed-evict}
use Rattle.shared_cache.specs.laws.Kept.{blocks_of-evict}
use Rattle.shared_cache.proofs.cached_blocks.CachedBlocks.evict.Goals as goal

indexed_now : (c : goal.After-unset) → IsIndexed c.evict_front.new.self c.self.inside.blocks.items (hash.get nat_eq c.unset.new.index)
indexed_now c =
    indexed-evict _ _ _ _ _ c.in_ok-frame.frame _ c.self.invariant c.in_ok-frame.ensures.front c.in_ok-frame.ensures.moved c.in_ok-frame.ensures.pool
    c.index.ensures c.unset.ensures.found

pub invariant_of-self-2 : goal.invariant_of-self-2
invariant_of-self-2 c = indexed_now c

pub returns-clause-free : goal.returns-clause-free
returns-clause-free c = free_now c.in_ok-frame.frame _ _ c.in_ok-frame.ensures.moved

pub returns-clause-front : goal.returns-clause-front
returns-clause-front c =
    rw c.in_ok-frame.ensures.moved
    ((blocks_of-evict (record { pool = c.self.inside.pool; blocks = c.self.inside.blocks.items; spare = 0 }) c.in_ok-frame.frame (IsHeld_indexed _ _ _ _ c.self.invariant) c.in_ok-frame.ensures.front).0
    ∙ ap (λ (held : CachedState). evicted (blocks_of held.pool held.blocks)) c.self.view_is)

pub returns-clause-held_left : goal.returns-clause-held_left
returns-clause-held_left c frame some =
    let P : CachedState → Type 0 = λ held. 1 ≤ held_times frame held.pool in
    subst P c.self.view_is (held_before c.in_ok-frame.frame frame _ _ c.in_ok-frame.ensures.moved some)

pub returns-clause-dirty : goal.returns-clause-dirty
returns-clause-dirty c =
    rw c.in_ok-frame.ensures.moved
    ((blocks_of-evict (record { pool = c.self.inside.pool; blocks = c.self.inside.blocks.items; spare = 0 }) c.in_ok-frame.frame (IsHeld_indexed _ _ _ _ c.self.invariant) c.in_ok-frame.ensures.front).1
    ∙ ap (λ (held : CachedState). held.pool.dirty) c.self.view_is)

pub returns-clause-held : goal.returns-clause-held
returns-clause-held c = IsHeld_indexed _ _ _ _ (indexed_now c)
