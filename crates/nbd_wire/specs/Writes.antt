-- What writing to a stream comes to.
use Rattle.std.specs.Prelude.{ℕ, ◌≡◌, List, ◌++◌, Option, Result, Ok, Err}
use Rattle.std.specs.Io.KnownBytes.{Appends}
use Rattle.nbd_wire.specs.declared.bytes.StreamFault.{StreamFault}

-- Bytes were written, all or after a fault the first of them.
abbrev pub WritesPart : Option (List ℕ) → Option (List ℕ) → List ℕ → Result (Unit {0}) StreamFault → Type 0
WritesPart old new bytes (Ok done) = Appends old new bytes
WritesPart old new bytes (Err fault) = (first rest : List ℕ) × (bytes ≡ first ++ rest) × Appends old new first
