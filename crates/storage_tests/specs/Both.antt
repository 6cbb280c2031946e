-- the numbers of a pool's dirty frames
use Rattle.std.specs.Prelude.{ℕ, ◌≤◌, List, All}
use Rattle.frame_pool.specs.Pool.{DirtyFrame}

abbrev pub IsAtMost : ℕ → List DirtyFrame → Type 0
IsAtMost last dirty = All (λ (held : DirtyFrame). held.number ≤ last) dirty
