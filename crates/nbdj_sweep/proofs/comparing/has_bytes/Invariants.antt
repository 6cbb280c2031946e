use Rattle.std.proofs.Common.{◌≡◌, ℕ, ◌+◌, ◌<◌, slice_index}
use Rattle.nbdj_sweep.proofs.comparing.has_bytes.Given as goal

-- those before are the same
abbrev pub invariant-loop-k : goal.invariant-loop-k
invariant-loop-k l = (k : ℕ) → k < l.k → slice_index l.all (l.from + k) ≡ slice_index l.bytes k
