use Rattle.std.proofs.Common.{length, ap, ◌∙◌, refl, rules}
use Rattle.frame_pool.specs.declared.place.Place.TheVariants.{Free}
use Rattle.frame_pool.specs.Numbers.{AreNumbered}
use Rattle.frame_pool.specs.Pool.{PoolState, with_free}
use Rattle.frame_pool.proofs.FrameNumbers.{IsPool_numbered, numbered_moved, frame_inside, pool-free, seen_moved}
use Rattle.frame_pool.proofs.FramesWithBytes.{have_moved}
use Rattle.frame_pool.proofs.pool.FramePool.release.Goals as goal

numbers_now : (c : goal.After-move_to) → AreNumbered (length c.self.inside.frames) c.move_to.new.lists.linked c.move_to.new.lists.numbers c.move_to.new.count
numbers_now c =
    numbered_moved _ c.args.frame Free 0 _ _ _ _ c.self.invariant.0 (frame_inside c.args.frame _ _ _ _ c.self.view_is c.requires) tt
    (search rules) c.move_to.ensures.count

pub invariant_of-self : goal.invariant_of-self
invariant_of-self c = (numbers_now c, have_moved c.self.inside.lists _ _ _ c.args.frame Free c.move_to.ensures.lists c.self.invariant.1 (λ ne. absurd (ne refl)))

pub returns-clause-moved : goal.returns-clause-moved
returns-clause-moved c =
    seen_moved _ _ _ _ c.move_to.ensures.lists
    ∙ pool-free c.self.inside.lists.linked c.self.inside.lists.numbers _ c.args.frame
    ∙ ap (λ (pool : PoolState). with_free c.args.frame pool) c.self.view_is

pub returns-clause-pool : goal.returns-clause-pool
returns-clause-pool c = IsPool_numbered _ _ _ _ (numbers_now c)
