use Rattle.std.proofs.Common.{◌≡◌, length}
use Rattle.nbdj_sweep.proofs.trying.fail_at_each.Given as goal

-- the device keeps its size
abbrev pub invariant-loop-k : goal.invariant-loop-k
invariant-loop-k g l = record {
  fresh : l.trial.fresh ≡ l.fn.trial.fresh;
  size : length l.tally.disk.bytes.items ≡ length l.fn.trial.fresh.bytes.items;
}
