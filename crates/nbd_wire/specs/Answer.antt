-- What a request is answered: bytes with the states that they are in, or states alone.
use Rattle.std.specs.Prelude.{◌≡◌, ◌≢◌, ◌⊎◌, ℕ, ◌+◌, ◌^◌, ◌<◌, ◌≤◌, List, [], ◌∷◌, length, take, drop, replicate}
use Rattle.std.specs.List.{AllByRecursion}
use Rattle.nbd_wire.specs.declared.message.Run.{Run}
use Rattle.nbd_wire.specs.Request.{payload_limit}

-- bytes that were read from `offset` on, and the runs that part them by their state
pub record BytesRead : Type 0 where
  pub offset : ℕ
  pub bytes : List ℕ
  pub runs : List Run

-- bytes in one run
abbrev pub one_run : ℕ → List ℕ → ℕ → BytesRead
one_run from content status =
    record { offset = from; bytes = content; runs = record { length = length content; status = status } ∷ [] }

-- the status of data, and that of bytes that are a hole and read as zero (bits 0 and 1 of the context base:allocation)
abbrev pub data_status : ℕ
data_status = 0

abbrev pub hole_status : ℕ
hole_status = 3

-- the most runs that an answer has
abbrev pub run_limit : ℕ
run_limit = 1024

abbrev pub IsInState : ℕ → List ℕ → Type 0
IsInState status bytes = (status ≡ data_status) ⊎ ((status ≡ hole_status) × (bytes ≡ replicate (length bytes) 0))

-- the runs part the bytes, and each part is in the status of its run
abbrev pub PartsBytes : List Run → List ℕ → Type 0
PartsBytes [] bytes = bytes ≡ []
PartsBytes (run ∷ runs) bytes =
    (0 < run.length) × (run.length ≤ length bytes) × IsInState run.status (take run.length bytes)
    × PartsBytes runs (drop run.length bytes)

-- a run of this status, and those after it, aren't one run
abbrev pub DiffersFrom : ℕ → List Run → Type 0
DiffersFrom status [] = Unit {0}
DiffersFrom status (next ∷ runs) = status ≢ next.status

-- neighbours differ in status
abbrev pub IsJoined : List Run → Type 0
IsJoined [] = Unit {0}
IsJoined (run ∷ runs) = DiffersFrom run.status runs × IsJoined runs

-- this many runs are answered
abbrev pub IsAnswerable : List Run → Type 0
IsAnswerable runs = (0 < length runs) × (length runs ≤ run_limit)

-- bytes that a READ is answered with
pub record IsBytesRead (read : BytesRead) : Type 0 where
  pub count : IsAnswerable read.runs
  pub parts : PartsBytes read.runs read.bytes
  pub joined : IsJoined read.runs
  pub most : length read.bytes ≤ payload_limit
  pub inside : read.offset + length read.bytes < 2 ^ 64

-- states that a BLOCK_STATUS is answered with
pub record IsStates (runs : List Run) : Type 0 where
  pub count : IsAnswerable runs
  pub some : AllByRecursion (λ run. 0 < run.length) runs
