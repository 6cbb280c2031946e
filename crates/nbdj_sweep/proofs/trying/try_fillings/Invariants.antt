use Rattle.std.proofs.Common.{◌≡◌, length}
use Rattle.nbdj_sweep.proofs.trying.try_fillings.Given as goal

-- the device keeps its size
abbrev pub invariant-loop-choice : goal.invariant-loop-choice
invariant-loop-choice g l = record {
  fresh : l.trial.fresh ≡ l.fn.trial.fresh;
  size : length l.all.disk.bytes.items ≡ length l.fn.trial.fresh.bytes.items;
}
