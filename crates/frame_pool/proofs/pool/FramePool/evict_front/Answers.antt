use Rattle.frame_pool.proofs.FrameNumbers.{IsPool_seen}
use Rattle.frame_pool.proofs.pool.FramePool.evict_front.Goals as goal

pub returns-in_err-frame-clause-pool : goal.returns-in_err-frame-clause-pool
returns-in_err-frame-clause-pool c = IsPool_seen _ _ _ _ _ c.self.invariant.0 c.self.view_is
