-- a group that is written where a gate stands
use Rattle.std.specs.Prelude.{ℕ, ◌≡◌, ◌+◌, ◌⊎◌, List, length, slice_index}
use Rattle.disk_model.specs.Disk.{State, InRange, IsAllSynced, MayLeaveTorn}
use Rattle.journal_format.specs.GroupList.{IsOpen, StandsAt}

-- what a crash may leave while these bytes are written after a gate, and the gate is then opened: its byte is as it
-- was, or the bytes are whole
pub record LeavesGateOrBytes (state : State) (gate : ℕ) (bytes : List ℕ) (content : List ℕ) : Type 0 where
  pub others : MayLeaveTorn state gate (1 + length bytes) content
  pub guarded : (slice_index content gate ≡ slice_index state.seen gate) ⊎ StandsAt content (gate + 1) bytes

-- the gate is open before these bytes, and nothing is unsynced
pub record IsOpenBefore (before : State) (gate : ℕ) (bytes : List ℕ) (after : State) : Type 0 where
  pub gate_open : IsOpen after.seen gate
  pub whole : StandsAt after.seen (gate + 1) bytes
  pub others : MayLeaveTorn before gate (1 + length bytes) after.seen
  pub same : (place : ℕ) → (InRange gate (1 + length bytes) place → ⊥) → (before.loose place → ⊥) → slice_index after.seen place ≡ slice_index before.seen place
  pub synced : IsAllSynced after
