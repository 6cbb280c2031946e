use Rattle.std.proofs.Common.{◌≡◌, ◌≤◌, ◌++◌, drop, length, take}
use Rattle.export_model.specs.Shown.{cut_behind, cut_front}
use Rattle.request_core.proofs.runs.cut.Given as goal

-- the runs before this one stay, and those from it on are cut to what is left
abbrev pub invariant-loop-at : goal.invariant-loop-at
invariant-loop-at l =
    (l.at ≤ length l.runs.items) × (length l.runs.items ≡ l.at-end) × (l.runs.items ≡ cut_front l.skip l.fn.runs.items)
    × (cut_behind l.count l.runs.items ≡ take l.at l.runs.items ++ cut_behind l.left (drop l.at l.runs.items))
