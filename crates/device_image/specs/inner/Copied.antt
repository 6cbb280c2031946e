-- what the device calls of a checkpoint leave
use Rattle.std.specs.Prelude.{ℕ, ◌≡◌, ◌≢◌, ◌+◌, ◌<◌, ◌≤◌, ◌⊎◌, List, length, slice_index}
use Rattle.disk_model.specs.Disk.{State, InRange, IsAllSynced, IsSteady}
use Rattle.header_slots.specs.Slots.{HoldsHeader}
use Rattle.header_slots.specs.declared.header.Header.{Header}
use Rattle.image_model.specs.Geometry.{map_bytes_of}
use Rattle.image_model.specs.Side.{other_of}
use Rattle.image_model.specs.declared.command.Kind.{Kind}
use Rattle.image_model.specs.declared.side.Side.{Side}
use Rattle.regions.specs.Map.{HoldsMap}

-- after this many bytes were read at one place and written at another, where no place was loose
pub record IsCopiedOver (before : State) (from to count : ℕ) (after : State) : Type 0 where
  pub size : length after.seen ≡ length before.seen
  pub written : (k : ℕ) → k < count → slice_index after.seen (to + k) ≡ slice_index before.seen (from + k)
  pub others : (place : ℕ) → (InRange to count place → ⊥) → slice_index after.seen place ≡ slice_index before.seen place
  pub unsynced : (place : ℕ) → after.unsynced place → before.unsynced place ⊎ InRange to count place
  pub steady : IsSteady after

-- after the map of these states was written into the slot that begins at this place, and a sync
pub record IsMapStored (before : State) (place blocks : ℕ) (states : List Kind) (after : State) : Type 0 where
  pub size : length after.seen ≡ length before.seen
  pub map : HoldsMap after.seen place blocks states
  pub others : (p : ℕ) → (InRange place (map_bytes_of blocks) p → ⊥) → slice_index after.seen p ≡ slice_index before.seen p
  pub synced : IsAllSynced after

-- after an area that begins at this place came into use: its first gate is closed, and this header is in force
pub record IsAreaStarted (before : State) (extent from : ℕ) (header : Header) (slot : Side) (after : State) : Type 0 where
  pub held : HoldsHeader after.seen extent header slot
  pub closed : slice_index after.seen from ≡ 0
  pub others : (place : ℕ) → 8192 ≤ place → place ≢ from → slice_index after.seen place ≡ slice_index before.seen place
  pub synced : IsAllSynced after

-- what a crash may leave meanwhile: the header that was in force, in this slot, or, once the gate is closed, the new one;
-- at other places what stood there and wasn't unsynced
pub record LeavesAreaStart (before : State) (extent from : ℕ) (current : Header) (slot : Side) (header : Header) (content : List ℕ) : Type 0 where
  pub size : length content ≡ length before.seen
  pub others : (place : ℕ) → 8192 ≤ place → place ≢ from → (before.unsynced place → ⊥) → slice_index content place ≡ slice_index before.seen place
  pub either : HoldsHeader content extent current slot ⊎ ((slice_index content from ≡ 0) × HoldsHeader content extent header (other_of slot))
