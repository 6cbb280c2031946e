use Rattle.std.proofs.Common.{◌≡◌, ◌<◌, ◌≤◌, ◌%◌, ◌++◌, drop, map}
use Rattle.export_model.specs.Shown.{cut_behind, cut_front}
use Rattle.request_core.proofs.Stretches.{as_run}
use Rattle.request_core.proofs.runs.status_runs.Given as goal

-- the runs so far, with those from this stretch on cut to what is left, are all of them cut
abbrev pub invariant-loop-run : goal.invariant-loop-run
invariant-loop-run g l =
    (l.skip < 4096) × (l.left ≤ l.count)
    × (l.runs.items ++ cut_behind l.left (cut_front l.skip (map as_run (drop l.run-index l.run-items)))
    ≡ cut_behind l.count (cut_front (l.offset % 4096) (map as_run l.run-items)))
