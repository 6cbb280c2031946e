use Rattle.std.proofs.Common.{vec_len}
use Rattle.export.proofs.buffer_pool.BufferPool.free.Given as goal

abbrev pub decreases-loop-buffers : goal.decreases-loop-buffers
decreases-loop-buffers l = vec_len l.data
