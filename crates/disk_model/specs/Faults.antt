-- The number of faults that a device counts.
use Rattle.std.specs.Prelude.{ℕ, ◌+◌, ◌<◌, ◌≤◌, ◌⊎◌, Result, Ok, Err, min}

-- the number of faults after one more; the greatest 64-bit number stays
abbrev pub counted : ℕ → ℕ
counted faults = min (faults + 1) 18446744073709551615

-- what a call leaves of the number of faults: an Err is one more, an Ok none
abbrev pub faults_after : {T E : Type 0} → Result T E → ℕ → ℕ
faults_after (Ok value) faults = faults
faults_after (Err error) faults = counted faults

-- the number rose; where it is the greatest, which a further fault leaves, it counts as risen
abbrev pub HasRisen : ℕ → ℕ → Type 0
HasRisen before after = (before < after) ⊎ (18446744073709551615 ≤ after)
