-- Definitions for contracts between functions of this crate, next to those of `Hearing`.
use Rattle.std.specs.Prelude.{ℕ, Result, Ok, Err, ◌<◌, List, Option, length}
use Rattle.std.specs.Global.{Vec}
use Rattle.nbd_wire.specs.Request.{Message}
use Rattle.negotiation.specs.declared.end.End.{End}
use Rattle.std.specs.Io.KnownBytes.{Consumes}

-- some bytes were read off a stream
abbrev pub ReadsSome : Option (List ℕ) → Option (List ℕ) → Type 0
ReadsSome input left = (bytes : List ℕ) × (0 < length bytes) × Consumes input left bytes

-- these requests, or why there are none
abbrev pub as_outcome : Vec Message → Result (Unit {0}) End → Result (Vec Message) End
as_outcome requests (Ok done) = Ok requests
as_outcome requests (Err end) = Err end
