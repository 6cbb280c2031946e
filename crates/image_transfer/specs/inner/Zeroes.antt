-- bytes of a buffer that are all zero
use Rattle.std.specs.Prelude.{ℕ, ◌≡◌, ◌+◌, ◌<◌, List, slice_index}

-- these many bytes from this place on
abbrev pub AreZeroes : List ℕ → ℕ → ℕ → Type 0
AreZeroes bytes from count = (k : ℕ) → k < count → slice_index bytes (from + k) ≡ 0

-- the first of them
abbrev pub AreAllZero : List ℕ → ℕ → Type 0
AreAllZero bytes count = (k : ℕ) → k < count → slice_index bytes k ≡ 0
