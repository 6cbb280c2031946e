use Rattle.std.proofs.Common.{vec_len}
use Rattle.export.proofs.buffer_pool.BufferPool.put_commands.Given as goal

abbrev pub decreases-loop-command : goal.decreases-loop-command
decreases-loop-command l = vec_len l.commands
