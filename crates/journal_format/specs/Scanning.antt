-- What a scan of an area finds, piece by piece. A place is a byte of the device.
use Rattle.std.specs.Prelude.{ℕ, ◌≡◌, ◌+◌, ◌≤◌, ◌<◌, List, length, slice_index}
use Rattle.disk_model.specs.Disk.{State, InRange, IsSyncedIn}
use Rattle.journal_format.specs.declared.fault.JournalFault.{JournalFault}
use Rattle.journal_format.specs.declared.fault.JournalFault.TheVariants.{NoMemory, DeviceFault, AreaFull, OutOfOrder, DamagedGroup}
use Rattle.journal_format.specs.declared.touch.TouchedRange.{TouchedRange}
use Rattle.journal_format.specs.GroupList.{StandsAt, IsOpen, size_of, sizes_of, next_behind, IsNextGroup, Lead, Stand}
use Rattle.journal_format.specs.Spelling.{StoredGroup, group_bytes}
use Rattle.journal_format.specs.Touches.{touched_by_groups}

-- why a scan is refused
abbrev pub IsScanFault : JournalFault → Type 0
IsScanFault NoMemory = Unit {0}
IsScanFault DeviceFault = Unit {0}
IsScanFault AreaFull = ⊥
IsScanFault OutOfOrder = ⊥
IsScanFault DamagedGroup = Unit {0}

-- a part of an area in memory: from which byte of the area on, how many bytes, and a buffer that begins with them
pub record WindowState : Type 0 where
  pub from : ℕ
  pub held : ℕ
  pub buffer : List ℕ

-- the content is what reads of the area give
pub record IsScanned (content : List ℕ) (state : State) (area bytes : ℕ) : Type 0 where
  pub synced : IsSyncedIn state area bytes
  pub inside : area + bytes ≤ length content
  pub same : (place : ℕ) → InRange area bytes place → slice_index state.seen place ≡ slice_index content place

-- the gate is open, and no next group stands after it that leaves room for a gate before `end`
pub record HasNoGroup (image : ℕ) (content : List ℕ) (gate next end : ℕ) : Type 0 where
  pub is_open : IsOpen content gate
  pub none : (group : StoredGroup) → IsNextGroup image next group → StandsAt content (gate + 1) (group_bytes group) → gate + size_of group < end → ⊥

-- a list of groups stands from the place on and ends at the gate, and what it touches was noted
pub record FoundList (image : ℕ) (content : List ℕ) (place first gate next : ℕ) (touched : List TouchedRange) : Type 0 where
  pub groups : List StoredGroup
  pub stand : Stand image content place first groups
  pub gate_is : gate ≡ sizes_of groups
  pub next_is : next ≡ next_behind first groups
  pub noted : touched ≡ touched_by_groups place groups

-- the place on holds some groups, and then an open gate with no group after it that may be the next and leaves room
-- for a gate before the end
pub record FoundDamage (image : ℕ) (content : List ℕ) (place bytes first : ℕ) : Type 0 where
  pub groups : List StoredGroup
  pub lead : Lead image content place first groups
  pub inside : sizes_of groups < bytes
  pub damage : HasNoGroup image content (place + sizes_of groups) (next_behind first groups) (place + bytes)
