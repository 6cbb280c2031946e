-- What contracts see of a simulated device.
use Rattle.std.specs.Prelude.{◌≡◌, ℕ, ◌↔◌, ◌⊎◌, ◌≤◌, List, length, reverse, vec_capacity, vec_len}
use Rattle.disk_model.specs.declared.history.Entry.{Entry}
use Rattle.disk_model.specs.declared.fault_plan.FaultPlan.{FaultPlan}
use Rattle.disk_model.specs.declared.sim.SimDisk.{SimDisk}
use Rattle.disk_model.specs.Disk.{State, InRange}
use Rattle.disk_model.specs.History.{patched, unsynced_by, synced_content, state_of}

-- the bytes that a read gives
abbrev pub seen_bytes : SimDisk → List ℕ
seen_bytes disk = disk.bytes.items

-- what it did since the last crash, the newest first
abbrev pub history_of : SimDisk → List Entry
history_of disk = reverse disk.history.items

-- what the last good sync left, or the last crash where there was none since
abbrev pub synced_bytes : SimDisk → List ℕ
synced_bytes disk = synced_content (history_of disk) (seen_bytes disk)

-- the places written since the last good sync or crash
abbrev pub unsynced_at : SimDisk → ℕ → Type 0
unsynced_at disk place = unsynced_by (history_of disk) place

abbrev pub state_now : SimDisk → State
state_now disk = state_of (history_of disk) (seen_bytes disk)

-- which of the coming calls fail
abbrev pub plan_of : SimDisk → FaultPlan
plan_of disk = disk.plan

-- the same device with another plan
abbrev pub with_plan : SimDisk → FaultPlan → SimDisk
with_plan disk plan = record disk { plan = plan }

-- content and history are the same
pub record IsUnchanged (before after : SimDisk) : Type 0 where
  pub seen : seen_bytes after ≡ seen_bytes before
  pub history : history_of after ≡ history_of before

-- the bytes stand at `offset`, where the places are unsynced
pub record IsApplied (before : SimDisk) (offset : ℕ) (bytes : List ℕ) (after : SimDisk) : Type 0 where
  pub seen : seen_bytes after ≡ patched (seen_bytes before) offset bytes
  pub unsynced : (place : ℕ) → unsynced_at after place ↔ (unsynced_at before place ⊎ InRange offset (length bytes) place)
  pub synced : synced_bytes after ≡ synced_bytes before

-- no place is unsynced, and what was read is what is synced
pub record IsStable (before after : SimDisk) : Type 0 where
  pub seen : seen_bytes after ≡ seen_bytes before
  pub unsynced : (place : ℕ) → unsynced_at after place → ⊥
  pub synced : synced_bytes after ≡ seen_bytes before

-- the record holds as much as it has memory for
abbrev pub IsRecordFull : SimDisk → Type 0
IsRecordFull disk = vec_capacity disk.history ≤ vec_len disk.history
