-- the bytes that write commands take in a group of the journal, by docs/FORMATS.md, "Group"
use Rattle.std.specs.Prelude.{ℕ, ◌+◌, ◌-◌, nat_le, min, if◌then◌else◌, List, [], ◌∷◌, length, sum_by}
use Rattle.image_model.specs.Change.{Change, Written, Cleared, Edged}

-- the bytes that a command takes, 13 and its data, and one more that tells its edges; and those of some commands
abbrev pub body_bytes : Change → ℕ
body_bytes (Written first bytes) = 13 + length bytes
body_bytes (Cleared first blocks kind) = 13
body_bytes (Edged first blocks kind edges bytes) = 14 + length bytes

abbrev pub bodies_bytes : List Change → ℕ
bodies_bytes changes = sum_by body_bytes changes

-- how many commands from the first on take at most `limit` bytes together
abbrev pub longest : ℕ → List Change → ℕ
longest limit [] = 0
longest limit (change ∷ changes) =
    if nat_le (body_bytes change) limit then 1 + longest (limit - body_bytes change) changes else 0

-- the most bytes that a group's commands take: 8,388,608, and with 18 bytes round them no more than an area
abbrev pub body_limit : ℕ → ℕ
body_limit area = min 8388608 (area - 18)
