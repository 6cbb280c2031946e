use Rattle.std.proofs.Common.{◌-◌, ◌≤◌, ◌++◌, List, length}
use Rattle.alloc_map.specs.Runs.{AreRuns}
use Rattle.alloc_map.specs.declared.run.Run.{Run}
use Rattle.alloc_map.proofs.map.AllocMap.runs.Given as goal

abbrev pub invariant-loop-block : goal.invariant-loop-block
invariant-loop-block l =
    (l.block ≤ l.to)
    × ((rest : List Run) → AreRuns l.self l.block l.to (l.limit - length l.runs.items) rest → AreRuns l.self l.from l.to l.limit (l.runs.items ++ rest))

abbrev pub decreases-loop-block : goal.decreases-loop-block
decreases-loop-block l = l.to - l.block
