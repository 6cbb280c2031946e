use Rattle.frame_pool.proofs.FrameNumbers.{IsPool_seen}
use Rattle.frame_pool.proofs.pool.FramePool.frames.Goals as goal

pub returns-clause-pool : goal.returns-clause-pool
returns-clause-pool c = IsPool_seen _ _ _ _ _ c.self.invariant.0 c.self.view_is
