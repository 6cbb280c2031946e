-- The fields of a reader, and what they mean.
use Rattle.std.specs.Prelude.{◌≡◌, ◌<◌, ◌≤◌, Option, Some, None, length, take, vec_capacity}
use Rattle.nbd_wire.specs.declared.stream.State.{State}
use Rattle.nbd_wire.specs.declared.stream.State.TheVariants.{Head, Data, Discard, Failed}
use Rattle.nbd_wire.specs.Stream.{Kept, in_head, in_data, in_discard, failed, Reader, reading, starved, IsKeptWrite, IsDiscardedWrite}

abbrev pub kept : State → Kept
kept (Head bytes count) = in_head (take count bytes)
kept (Data head bytes) = in_data head bytes.items
kept (Discard head missing) = in_discard head missing
kept (Failed fault) = failed fault

-- none is left where memory ran out
abbrev pub reader_of : Option State → Reader
reader_of (Some state) = reading (kept state)
reader_of None = starved

-- Something is always missing, and the data that are kept have their room.
abbrev pub IsState : State → Type 0
IsState (Head bytes count) = (count < 28) × (length bytes ≡ 28)
IsState (Data head bytes) = IsKeptWrite head × (length bytes.items < head.length) × (head.length ≤ vec_capacity bytes)
IsState (Discard head missing) = IsDiscardedWrite head × (0 < missing) × (missing ≤ head.length)
IsState (Failed fault) = Unit {0}

abbrev pub IsReader : Option State → Type 0
IsReader (Some state) = IsState state
IsReader None = Unit {0}
