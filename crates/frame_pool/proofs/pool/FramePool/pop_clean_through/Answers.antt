use Rattle.std.proofs.Common.{length, ap, ◌∙◌, sym, arith, rules}
use Rattle.frame_pool.specs.declared.place.Place.TheVariants.{Clean}
use Rattle.frame_pool.specs.Cells.{IsWritten}
use Rattle.frame_pool.specs.Numbers.{AreNumbered}
use Rattle.frame_pool.specs.Pool.{PoolState, front_through, with_clean}
use Rattle.frame_pool.proofs.FrameNumbers.{IsPool_numbered, numbered_moved, frame_inside, front_through-held, pool-clean, seen_moved}
use Rattle.frame_pool.proofs.FramesWithBytes.{have_moved}
use Rattle.frame_pool.proofs.pool.FramePool.pop_clean_through.Goals as goal

-- the front is dirty, and so it has bytes
has_bytes : (c : goal.After-move_to) → IsWritten c.self.inside.frames c.in_ok-frame.frame
has_bytes c =
    let found = ap (λ (pool : PoolState). front_through c.args.number pool.dirty) c.self.view_is ∙ sym c.in_ok-frame.ensures.front in
    let held = front_through-held _ c.args.number c.in_ok-frame.frame _ found in
    c.self.invariant.1 c.in_ok-frame.frame (omega (arith, held))

numbers_now : (c : goal.After-move_to) → AreNumbered (length c.self.inside.frames) c.move_to.new.lists.linked c.move_to.new.lists.numbers c.move_to.new.count
numbers_now c =
    numbered_moved _ c.in_ok-frame.frame Clean 0 _ _ _ _ c.self.invariant.0 (frame_inside c.in_ok-frame.frame _ _ _ _ c.self.view_is c.in_ok-frame.ensures.inside) tt
    (search rules) c.move_to.ensures.count

pub invariant_of-self : goal.invariant_of-self
invariant_of-self c =
    (numbers_now c, have_moved c.self.inside.lists _ _ _ c.in_ok-frame.frame Clean c.move_to.ensures.lists c.self.invariant.1 (λ ne. has_bytes c))

pub returns-clause-moved : goal.returns-clause-moved
returns-clause-moved c =
    seen_moved _ _ _ _ c.move_to.ensures.lists
    ∙ pool-clean c.self.inside.lists.linked c.self.inside.lists.numbers _ c.in_ok-frame.frame
    ∙ ap (λ (pool : PoolState). with_clean c.in_ok-frame.frame pool) c.self.view_is

pub returns-clause-pool : goal.returns-clause-pool
returns-clause-pool c = IsPool_numbered _ _ _ _ (numbers_now c)
