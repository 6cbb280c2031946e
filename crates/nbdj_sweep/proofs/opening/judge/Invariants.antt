use Rattle.std.proofs.Common.{◌≡◌, length}
use Rattle.nbdj_sweep.proofs.opening.judge.Given as goal

-- the device keeps its size
abbrev pub invariant-loop-k : goal.invariant-loop-k
invariant-loop-k l = length l.judged.disk.bytes.items ≡ length l.fn.work.bytes.items
