-- what a write of a map slot or of blocks leaves
use Rattle.std.specs.Prelude.{ℕ, ◌≡◌, List, slice_index}
use Rattle.disk_model.specs.Disk.{State, InRange, IsWritten}
use Rattle.alloc_map.specs.Map.{IsMapOf}
use Rattle.image_model.specs.declared.command.Kind.{Kind}

-- no place of the range is loose
abbrev pub IsSteadyIn : State → ℕ → ℕ → Type 0
IsSteadyIn state from count = (place : ℕ) → InRange from count place → state.loose place → ⊥

-- outside the range a read gives what it gave before
abbrev pub IsSameOutside : State → ℕ → ℕ → State → Type 0
IsSameOutside before from count after = (place : ℕ) → (InRange from count place → ⊥) → (before.loose place → ⊥)
    → slice_index after.seen place ≡ slice_index before.seen place

-- after a good write of the map of these states
pub record IsMapWritten (before : State) (place : ℕ) (states : List Kind) (after : State) : Type 0 where
  pub bytes : List ℕ
  pub map : IsMapOf bytes states
  pub written : IsWritten before place bytes after
