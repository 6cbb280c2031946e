use Rattle.std.proofs.Common.{ℕ, ◌≤◌, ◌<◌, length, ap, ◌∙◌, sym, subst, arith, rules}
use Rattle.std.specs.List.{All}
use Rattle.frame_pool.specs.declared.place.Place.TheVariants.{Dirty}
use Rattle.frame_pool.specs.Numbers.{AreNumbered}
use Rattle.frame_pool.specs.Pool.{PoolState, DirtyFrame, with_bytes, with_dirty}
use Rattle.frame_pool.proofs.FrameNumbers.{IsPool_numbered, numbered_moved, frame_inside, last_numbered, pool-dirty, seen_written}
use Rattle.frame_pool.proofs.FramesWithBytes.{count_written, have_moved, have_written, is_written}
use Rattle.frame_pool.proofs.pool.FramePool.write_dirty.Goals as goal

inside : (c : goal.After-move_to) → c.args.frame < length c.self.inside.frames
inside c = frame_inside c.args.frame _ _ _ _ c.self.view_is c.requires.frame

numbers_now : (c : goal.After-move_to) → AreNumbered (length c.write.new.self) c.move_to.new.lists.linked c.move_to.new.lists.numbers c.move_to.new.count
numbers_now c =
    let P : PoolState → Type 0 = λ pool. All (λ (held : DirtyFrame). held.number ≤ c.args.number) pool.dirty in
    let now = numbered_moved _ c.args.frame Dirty c.args.number _ _ _ _ c.self.invariant.0 (inside c) (last_numbered _ c.args.number _ (subst P (sym c.self.view_is) c.requires.order)) (search rules) c.move_to.ensures.count in
    subst (λ (frames : ℕ). AreNumbered frames c.move_to.new.lists.linked c.move_to.new.lists.numbers c.move_to.new.count)
    (sym (count_written c.self.inside.lists _ _ c.args.frame _ (inside c) c.write.ensures)) now

pub invariant_of-self : goal.invariant_of-self
invariant_of-self c = (
  numbers_now c,
  have_moved c.self.inside.lists _ _ _ c.args.frame Dirty c.move_to.ensures.lists
      (have_written c.self.inside.lists _ _ c.args.frame _ (inside c) c.write.ensures c.self.invariant.1)
      (λ ne. is_written c.self.inside.lists _ _ c.args.frame _ (inside c) c.write.ensures),
)

pub returns-clause-written : goal.returns-clause-written
returns-clause-written c =
    let below : c.args.frame < length c.self.inside.lists.numbers = omega (arith, inside c, c.self.invariant.0.size) in
    seen_written _ _ _ _ _ c.args.frame c.args.bytes.now c.move_to.ensures.lists c.write.ensures
    ∙ ap (λ (pool : PoolState). with_bytes c.args.frame c.args.bytes.now pool)
    (pool-dirty c.self.inside.lists.linked c.self.inside.lists.numbers _ c.args.frame c.args.number below
    ∙ ap (λ (pool : PoolState). with_dirty c.args.frame c.args.number pool) c.self.view_is)

pub returns-clause-pool : goal.returns-clause-pool
returns-clause-pool c = IsPool_numbered _ _ _ _ (numbers_now c)
