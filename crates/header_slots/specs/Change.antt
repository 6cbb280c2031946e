-- how the header in force is changed for the next one, by docs/FORMATS.md, "Header slot"
use Rattle.std.specs.Prelude.{ℕ, ◌≡◌, ◌≢◌, ◌+◌, ◌*◌, ◌<◌, ◌≤◌, ◌⊎◌, List, length, slice_index}
use Rattle.disk_model.specs.Disk.{State, IsAllSynced, IsStored, MayLeave, MayLeaveTorn}
use Rattle.image_model.specs.Side.{other_of}
use Rattle.image_model.specs.declared.geometry.Geometry.{Geometry}
use Rattle.image_model.specs.declared.side.Side.{Side}
use Rattle.header_slots.specs.declared.change.HeaderChange.{HeaderChange}
use Rattle.header_slots.specs.declared.header.Header.{Header}
use Rattle.header_slots.specs.Header.{SpellsAt}
use Rattle.header_slots.specs.Slots.{slot_at, IsOpen, HoldsHeader}

-- the next header: its generation is one greater, the sizes stay, and the rest is as the change says
pub record IsRenewed (header : Header) (change : HeaderChange) (next : Header) : Type 0 where
  pub generation : next.generation ≡ header.generation + 1
  pub geometry : next.geometry ≡ header.geometry
  pub before_last : next.before_last ≡ change.before_last
  pub first_area : next.first_area ≡ change.first_area
  pub map_slot : next.map_slot ≡ change.map_slot
  pub base : next.base ≡ change.base

-- The next header in a geometry whose areas have half the bytes: its generation is one greater, one area is in use, which
-- begins where the first one did, and map slot and base stay.
pub record IsUpgraded (header : Header) (halved : Geometry) (next : Header) : Type 0 where
  pub generation : next.generation ≡ header.generation + 1
  pub geometry : next.geometry ≡ halved
  pub before_last : next.before_last ≡ 0
  pub first_area : next.first_area ≡ 2 * header.first_area
  pub map_slot : next.map_slot ≡ header.map_slot
  pub base : next.base ≡ header.base

-- The gate of a slot is closed, and a read gives what it gave before at every other place.
pub record IsGateClosed (before : State) (slot : Side) (after : State) : Type 0 where
  pub closed : IsOpen after.seen slot → ⊥
  pub others : (place : ℕ) → place ≢ slot_at slot → (before.loose place → ⊥) → slice_index after.seen place ≡ slice_index before.seen place
  pub unsynced : (place : ℕ) → after.unsynced place → before.unsynced place
  pub loose : (place : ℕ) → after.loose place → before.loose place

-- What a crash may leave while the gate of a slot is closed: a closed gate stays as it is, and an open one may be any byte.
abbrev pub LeavesClosing : State → Side → List ℕ → Type 0
LeavesClosing before slot content =
    MayLeave before content ⊎ (IsOpen before.seen slot × MayLeaveTorn before (slot_at slot) 1 content)

-- The 39 bytes of this header stand after the gate of a slot, stable; nothing else was written.
pub record IsBodyStored (before : State) (slot : Side) (header : Header) (after : State) : Type 0 where
  pub bytes : List ℕ
  pub size : length bytes ≡ 39
  pub spelled : SpellsAt bytes 0 header
  pub stored : IsStored before (slot_at slot + 1) bytes after

-- the header comes next to this one, on a device of the same size
pub record ComesNext (current header : Header) : Type 0 where
  pub generation : header.generation ≡ current.generation + 1
  pub blocks : header.geometry.blocks ≡ current.geometry.blocks
  pub area : header.geometry.area ≡ current.geometry.area

-- outside the two slots a content that a crash now may leave
pub record IsLeftOutside (before : State) (content : List ℕ) : Type 0 where
  pub size : length content ≡ length before.seen
  pub bytes : (place : ℕ) → slice_index content place < 256
  pub same : (place : ℕ) → 8192 ≤ place → (before.unsynced place → ⊥) → slice_index content place ≡ slice_index before.seen place

-- What a crash may leave while this header takes the place of the one in force, which stands in this slot: one of the two.
pub record LeavesEither (before : State) (size : ℕ) (current : Header) (slot : Side) (header : Header) (content : List ℕ) : Type 0 where
  pub outside : IsLeftOutside before content
  pub either : HoldsHeader content size current slot ⊎ HoldsHeader content size header (other_of slot)

-- This header is in force, in this slot; all is stable, and outside the two slots a read gives what it gave before.
pub record IsInPlace (before : State) (size : ℕ) (header : Header) (slot : Side) (after : State) : Type 0 where
  pub held : HoldsHeader after.seen size header slot
  pub others : (place : ℕ) → 8192 ≤ place → (before.loose place → ⊥) → slice_index after.seen place ≡ slice_index before.seen place
  pub synced : IsAllSynced after
