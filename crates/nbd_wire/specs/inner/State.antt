-- Definitions for contracts between functions of this crate, next to those of `State`.
use Rattle.std.specs.Prelude.{◌≡◌, ℕ, ◌-◌, ◌^◌, Option, Some, None, List, [], ◌∷◌, ◌++◌, length}
use Rattle.std.specs.Io.KnownBytes.{Consumes, IsAtEnd}
use Rattle.nbd_wire.specs.declared.stream.State.{State}
use Rattle.nbd_wire.specs.declared.stream.State.TheVariants.{Head, Data, Discard, Failed}
use Rattle.nbd_wire.specs.Request.{Message}
use Rattle.nbd_wire.specs.Stream.{Kept, in_head, in_data, in_discard, failed, Reader, reading, starved, Keeps, Reads}
use Rattle.nbd_wire.specs.State.{kept}

-- how many bytes are taken at once, at most: up to the end of a head or of the data
abbrev pub wanted_of : State → ℕ
wanted_of (Head bytes count) = 28 - count
wanted_of (Data head bytes) = head.length - length bytes.items
wanted_of (Discard head missing) = missing
wanted_of (Failed fault) = 2 ^ 64 - 1

abbrev pub found : Option Message → List Message
found None = []
found (Some request) = request ∷ []

-- what was kept, and these bytes after it, is these requests, and then what is kept
abbrev pub Advances : Kept → List ℕ → List Message → Kept → Type 0
Advances old bytes requests new = (text : List ℕ) → Keeps old text → Reads (text ++ bytes) requests new

-- where memory runs out, some first part of the bytes was read
abbrev pub AdvancesTo : Kept → List ℕ → List Message → Reader → Type 0
AdvancesTo old bytes requests (reading new) = Advances old bytes requests new
AdvancesTo old bytes requests starved =
    (first rest : List ℕ) × (between : Kept) × (bytes ≡ first ++ rest) × Advances old first requests between

abbrev pub IsGoing : Reader → Type 0
IsGoing (reading (in_head bytes)) = Unit {0}
IsGoing (reading (in_data head bytes)) = Unit {0}
IsGoing (reading (in_discard head missing)) = Unit {0}
IsGoing (reading (failed fault)) = ⊥
IsGoing starved = ⊥

-- no request came, and no fault
abbrev pub IsQuiet : State × Option Message → Type 0
IsQuiet step = (step.1 ≡ None) × IsGoing (reading (kept step.0))

-- this many bytes were read off a stream, and stand after those before
pub record IsReadBehind (before : List ℕ) (input left : Option (List ℕ)) (count : ℕ) (after : List ℕ) : Type 0 where
  pub piece : List ℕ
  pub len : length piece ≡ count
  pub behind : after ≡ before ++ piece
  pub read : Consumes input left piece
  pub end : count ≡ 0 → IsAtEnd left
