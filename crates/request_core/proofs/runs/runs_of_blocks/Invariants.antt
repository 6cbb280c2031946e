use Rattle.std.proofs.Common.{◌≡◌, ◌*◌, ◌-◌, ◌≤◌, ◌<◌, [], ◌∷◌, ◌++◌}
use Rattle.alloc_map.specs.Codes.{state_at}
use Rattle.export_model.specs.Shown.{read_status_of, runs_from}
use Rattle.request_core.proofs.runs.runs_of_blocks.Given as goal

-- the runs so far, with the last of them, are those of the blocks before this one
abbrev pub invariant-loop-block : goal.invariant-loop-block
invariant-loop-block g l =
    (l.first < l.block) × (l.last.length ≤ 4096 * (l.block - l.first))
    × (l.runs.items ++ l.last ∷ [] ≡ runs_from (λ b. read_status_of (state_at l.order.cache.states b)) l.first (l.block - l.first))
