-- What a number of seconds or milliseconds means as a limit of time.
use Rattle.std.specs.Prelude.{◌≡◌, ℕ, ◌*◌, ◌<◌, Option, Some, None}
use Rattle.std.specs.Duration.{as_nanos}
use Rattle.std.specs.declared.time.Duration.{Duration}

-- The time is count * unit nanoseconds; a count of 0 means that there is no limit.
abbrev pub IsLimit : ℕ → ℕ → Option Duration → Type 0
IsLimit count unit None = count ≡ 0
IsLimit count unit (Some time) = (0 < count) × (as_nanos time ≡ count * unit)
