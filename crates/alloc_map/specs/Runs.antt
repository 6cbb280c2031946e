-- the longest runs of equal states
use Rattle.std.specs.Prelude.{ℕ, ◌≡◌, ◌≢◌, ◌+◌, ◌-◌, ◌<◌, ◌≤◌, ◌⊎◌, List, [], ◌∷◌}
use Rattle.image_model.specs.declared.command.Kind.{Kind}
use Rattle.alloc_map.specs.Codes.{state_at}
use Rattle.alloc_map.specs.declared.run.Run.{Run}

-- Before `to`, the longest run that begins with this block: its blocks have one state, and the next another.
pub record IsRun (states : List Kind) (block to : ℕ) (run : Run) : Type 0 where
  pub some : 1 ≤ run.blocks
  pub within : block + run.blocks ≤ to
  pub same : (k : ℕ) → k < run.blocks → state_at states (block + k) ≡ run.kind
  pub longest : block + run.blocks < to → state_at states (block + run.blocks) ≢ run.kind

-- the longest runs from this block on before `to`, each after the one before it: all of them, or the first `limit`
abbrev pub AreRuns : List Kind → ℕ → ℕ → ℕ → List Run → Type 0
AreRuns states block to limit [] = (to ≤ block) ⊎ (limit ≡ 0)
AreRuns states block to limit (run ∷ runs) =
    (1 ≤ limit) × IsRun states block to run × AreRuns states (block + run.blocks) to (limit - 1) runs
