use Rattle.std.proofs.Common.{◌≡◌, ℕ, ◌-◌, ◌<◌, ◌≤◌}
use Rattle.alloc_map.specs.Codes.{code_at}
use Rattle.alloc_map.proofs.codes.has_good_codes.Given as goal

abbrev pub invariant-loop-block : goal.invariant-loop-block
invariant-loop-block l =
    (l.block ≤ l.all) × ((k : ℕ) → k < l.block → (code_at l.bytes k < 3) × (l.blocks ≤ k → code_at l.bytes k ≡ 0))

abbrev pub decreases-loop-block : goal.decreases-loop-block
decreases-loop-block l = l.all - l.block
