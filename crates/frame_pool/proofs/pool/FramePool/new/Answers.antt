use Rattle.std.proofs.Common.{◌+◌, ◌<◌, ◌^◌, length, arith}
use Rattle.frame_pool.specs.Numbers.{AreNumbered}
use Rattle.frame_pool.proofs.FrameNumbers.{IsPool_numbered}
use Rattle.frame_pool.proofs.AscendingLinks.{have_fresh, numbered_fresh, pool_fresh}
use Rattle.frame_pool.proofs.pool.FramePool.new.Goals as goal

numbers_now : (c : goal.In_ok-new-2) → AreNumbered (length c.in_ok-new-2.field-0) c.in_ok-new.field-0.linked c.in_ok-new.field-0.numbers 0
numbers_now c =
    let few : c.args.frames + 3 < 2 ^ 32 = omega (arith, c.requires) in
    numbered_fresh c.args.frames _ _ c.in_ok-new.ensures c.in_ok-new-2.ensures few

pub invariant_of-result : goal.invariant_of-result
invariant_of-result c = (numbers_now c, have_fresh c.args.frames _ _ c.in_ok-new.ensures c.in_ok-new-2.ensures)

pub returns : goal.returns
returns c = record {
  made = pool_fresh c.args.frames _ _ c.in_ok-new.ensures c.in_ok-new-2.ensures;
  pool = IsPool_numbered _ _ _ _ (numbers_now c);
}
