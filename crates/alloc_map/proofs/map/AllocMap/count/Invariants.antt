use Rattle.std.proofs.Common.{◌≡◌, ◌-◌, ◌≤◌, take}
use Rattle.std.specs.List.{count_by}
use Rattle.alloc_map.specs.Codes.{is_state}
use Rattle.alloc_map.proofs.map.AllocMap.count.Given as goal

abbrev pub invariant-loop-block : goal.invariant-loop-block
invariant-loop-block l =
    (l.block ≤ l.self-inside.blocks) × (l.count ≤ l.block) × (l.count ≡ count_by (is_state l.kind) (take l.block l.self))

abbrev pub decreases-loop-block : goal.decreases-loop-block
decreases-loop-block l = l.self-inside.blocks - l.block
