use Rattle.std.proofs.Common.{ℕ, Option, ap, ◌∙◌, is_some}
use Rattle.frame_pool.specs.Pool.{PoolState, is_dirty}
use Rattle.frame_pool.proofs.FrameNumbers.{is_some-kept}
use Rattle.frame_pool.proofs.pool.FramePool.is_dirty.Goals as goal

pub returns : goal.returns
returns c =
    c.is_some.ensures
    ∙ ap (λ (number : Option ℕ). is_some number) c.number.ensures
    ∙ is_some-kept _ c.args.frame _ _ _ c.self.invariant.0
    ∙ ap (λ (pool : PoolState). is_dirty c.args.frame pool.dirty) c.self.view_is
