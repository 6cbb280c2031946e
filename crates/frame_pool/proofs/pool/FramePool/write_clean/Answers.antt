use Rattle.std.proofs.Common.{ℕ, ◌<◌, length, ap, ◌∙◌, sym, subst, rules}
use Rattle.frame_pool.specs.declared.place.Place.TheVariants.{Clean}
use Rattle.frame_pool.specs.Numbers.{AreNumbered}
use Rattle.frame_pool.specs.Pool.{PoolState, with_bytes, with_clean}
use Rattle.frame_pool.proofs.FrameNumbers.{IsPool_numbered, numbered_moved, frame_inside, pool-clean, seen_written}
use Rattle.frame_pool.proofs.FramesWithBytes.{count_written, have_moved, have_written, is_written}
use Rattle.frame_pool.proofs.pool.FramePool.write_clean.Goals as goal

inside : (c : goal.After-move_to) → c.args.frame < length c.self.inside.frames
inside c = frame_inside c.args.frame _ _ _ _ c.self.view_is c.requires

numbers_now : (c : goal.After-move_to) → AreNumbered (length c.write.new.self) c.move_to.new.lists.linked c.move_to.new.lists.numbers c.move_to.new.count
numbers_now c =
    let now = numbered_moved _ c.args.frame Clean 0 _ _ _ _ c.self.invariant.0 (inside c) tt (search rules) c.move_to.ensures.count in
    subst (λ (frames : ℕ). AreNumbered frames c.move_to.new.lists.linked c.move_to.new.lists.numbers c.move_to.new.count)
    (sym (count_written c.self.inside.lists _ _ c.args.frame _ (inside c) c.write.ensures)) now

pub invariant_of-self : goal.invariant_of-self
invariant_of-self c = (
  numbers_now c,
  have_moved c.self.inside.lists _ _ _ c.args.frame Clean c.move_to.ensures.lists
      (have_written c.self.inside.lists _ _ c.args.frame _ (inside c) c.write.ensures c.self.invariant.1)
      (λ ne. is_written c.self.inside.lists _ _ c.args.frame _ (inside c) c.write.ensures),
)

pub returns-clause-written : goal.returns-clause-written
returns-clause-written c =
    seen_written _ _ _ _ _ c.args.frame c.args.bytes.now c.move_to.ensures.lists c.write.ensures
    ∙ ap (λ (pool : PoolState). with_bytes c.args.frame c.args.bytes.now pool)
    (pool-clean c.self.inside.lists.linked c.self.inside.lists.numbers _ c.args.frame
    ∙ ap (λ (pool : PoolState). with_clean c.args.frame pool) c.self.view_is)

pub returns-clause-pool : goal.returns-clause-pool
returns-clause-pool c = IsPool_numbered _ _ _ _ (numbers_now c)
