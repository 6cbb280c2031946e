use Rattle.std.proofs.Common.{length}
use Rattle.server.proofs.worker.WorkerPool.retire.Given as goal

abbrev pub decreases-loop-pass : goal.decreases-loop-pass
decreases-loop-pass g l = length l.others.items
