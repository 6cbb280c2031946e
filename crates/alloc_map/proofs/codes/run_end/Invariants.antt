use Rattle.std.proofs.Common.{◌≡◌, ◌≢◌, ◌+◌, ◌-◌, ◌<◌, ◌≤◌, ℕ}
use Rattle.alloc_map.specs.Codes.{code_at}
use Rattle.alloc_map.proofs.codes.run_end.Given as goal

abbrev pub invariant-loop-ahead : goal.invariant-loop-ahead
invariant-loop-ahead l = record {
  some : l.block < l.end + l.ahead;
  within : l.end + l.ahead ≤ l.to;
  same : (k : ℕ) → l.block ≤ k → k < l.end + l.ahead → code_at l.bytes k ≡ l.code;
  longest : l.ahead ≡ 0 → l.end < l.to → code_at l.bytes l.end ≢ l.code;
}

abbrev pub decreases-loop-ahead : goal.decreases-loop-ahead
decreases-loop-ahead l = l.to - l.end
