-- What it means that a file keeps to the disk model. The system's calls promise nothing of their bytes, so nothing can prove it.
-- Contracts have it as a premise, and no other crate can prove or refute that either (`Took` says why).
use Rattle.std.specs.Prelude.{◌≡◌, ℕ, ◌+◌, ◌<◌, List, [], length, slice_index, Result, OnOk, OnErr}
use Rattle.disk_model.specs.declared.disk.DeviceFault.{DeviceFault}
use Rattle.disk_model.specs.declared.file.FileDisk.{FileDisk}
use Rattle.disk_model.specs.Disk.{State, MayLeave, MayLeaveTorn, IsKept, IsWritten, IsWriteFailed, IsSynced, IsSyncFailed, LeavesOnly, IsSound}
use Rattle.disk_model.specs.FileCall.{FileCall, Read, Write, Sync, Took}

abbrev pub file_of : {F : Type 0} → FileDisk F → F
file_of disk = disk.file

abbrev pub size_of : {F : Type 0} → FileDisk F → ℕ
size_of disk = disk.size

-- What a read of the file gives, and what a crash may leave of it, at the moment at which its device has this value. It has another
-- value after each call, since it counts its calls. No proof looks into this definition: all that is known of the states is what the
-- premise says.
pub state_at : {F : Type 0} → FileDisk F → State
state_at disk = record { seen = []; unsynced = λ place. ⊥; loose = λ place. ⊥; moment = 0; left_since = λ moment content. ⊥ }

-- a read between two states that got these bytes
pub record ReadFits (before : State) (offset : ℕ) (bytes : List ℕ) (result : Result (Unit {0}) DeviceFault) (after : State) : Type 0 where
  pub got : OnOk result ((k : ℕ) → k < length bytes → slice_index bytes k ≡ slice_index after.seen (offset + k))
  pub kept : IsKept before after
  pub any_moment : LeavesOnly before after (MayLeave before)

-- a write between two states
pub record WriteFits (before : State) (offset : ℕ) (bytes : List ℕ) (result : Result (Unit {0}) DeviceFault) (after : State) : Type 0 where
  pub written : OnOk result (IsWritten before offset bytes after)
  pub failed : OnErr result (IsWriteFailed before offset (length bytes) after)
  pub any_moment : LeavesOnly before after (MayLeaveTorn before offset (length bytes))

-- a sync between two states
pub record SyncFits (before : State) (result : Result (Unit {0}) DeviceFault) (after : State) : Type 0 where
  pub synced : OnOk result (IsSynced before after)
  pub failed : OnErr result (IsSyncFailed before after)
  pub any_moment : LeavesOnly before after (MayLeave before)

-- the call did between these states what the disk model says
abbrev pub CallFits : State → FileCall → State → Type 0
CallFits before (Read offset bytes result) after = ReadFits before offset bytes result after
CallFits before (Write offset bytes result) after = WriteFits before offset bytes result after
CallFits before (Sync result) after = SyncFits before result after

-- The file keeps to the disk model while it is a device of this many bytes: each call that the device took did what the model says, and
-- the state was sound at each moment.
pub record KeepsToModel {F : Type 0} (file : F) (size : ℕ) : Type 0 where
  pub each : (before after : FileDisk F) (call : FileCall) → file_of before ≡ file → size_of before ≡ size → Took before call after → CallFits (state_at before) call (state_at after)
  pub sound : (disk : FileDisk F) → file_of disk ≡ file → size_of disk ≡ size → IsSound size (state_at disk)
