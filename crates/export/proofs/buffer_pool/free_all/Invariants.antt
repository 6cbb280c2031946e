use Rattle.std.proofs.Common.{vec_len}
use Rattle.export.proofs.buffer_pool.free_all.Given as goal

abbrev pub decreases-loop-buffer : goal.decreases-loop-buffer
decreases-loop-buffer l = vec_len l.buffers
