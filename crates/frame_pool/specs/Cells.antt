-- cells, each of which holds a value or was never written
use Rattle.std.specs.Prelude.{◌≡◌, ℕ, get_or, List, Option, Some, None}

-- the cell at the index holds a value
abbrev pub IsWritten : {X : Type 0} → List (Option X) → ℕ → Type 0
IsWritten {X = X} cells index = (x : X) × (get_or cells index None ≡ Some x)
