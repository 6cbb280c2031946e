-- which header a device holds, by docs/FORMATS.md, "Header slot"
use Rattle.std.specs.Prelude.{ℕ, ◌≡◌, ◌≢◌, ◌+◌, ◌*◌, ◌<◌, ◌≤◌, ◌⊎◌, List, slice_index, Result, Ok, Err}
use Rattle.disk_model.specs.Disk.{State, IsWritten}
use Rattle.disk_model.specs.Faults.{counted}
use Rattle.image_model.specs.Geometry.{device_bytes_of}
use Rattle.header_slots.specs.declared.fault.HeaderFault.{HeaderFault}
use Rattle.header_slots.specs.declared.fault.HeaderFault.TheVariants.{DeviceFault, NoHeader, BadHeader}
use Rattle.header_slots.specs.declared.header.Header.{Header}
use Rattle.image_model.specs.declared.side.Side.{Side}
use Rattle.image_model.specs.declared.side.Side.TheVariants.{Zero, One}
use Rattle.image_model.specs.Side.{index_of, other_of}
use Rattle.header_slots.specs.Header.{SpellsAt, IsBodyOf, IsBadAt}
use Rattle.header_slots.specs.Number.{number_at}

-- the first byte of a slot, its gate
abbrev pub slot_at : Side → ℕ
slot_at slot = 4096 * index_of slot

abbrev pub IsOpen : List ℕ → Side → Type 0
IsOpen content slot = slice_index content (slot_at slot) ≡ 1

abbrev pub generation_in : List ℕ → Side → ℕ
generation_in content slot = number_at (slot_at slot + 9) 8 content

-- The header in force stands in this slot: its gate is open, and the other's is closed or its generation is smaller.
pub record IsInForce (content : List ℕ) (slot : Side) : Type 0 where
  pub gate : IsOpen content slot
  pub greatest : IsOpen content (other_of slot) → generation_in content (other_of slot) < generation_in content slot

-- A device with this content, of `size` bytes, has this header in force, in this slot.
pub record HoldsHeader (content : List ℕ) (size : ℕ) (header : Header) (slot : Side) : Type 0 where
  pub room : 8192 ≤ size
  pub in_force : IsInForce content slot
  pub spelled : SpellsAt content (slot_at slot + 1) header
  pub whole : size ≡ device_bytes_of header.geometry.blocks header.geometry.area

-- No header is in force: the device is too short for the two slots, or no gate is open.
abbrev pub HoldsNone : List ℕ → ℕ → Type 0
HoldsNone content size = (size < 8192) ⊎ ((slot : Side) → ¬ (IsOpen content slot))

-- both gates are open with equal generations
pub record AreEqual (content : List ℕ) : Type 0 where
  pub zero_open : IsOpen content Zero
  pub one_open : IsOpen content One
  pub same : generation_in content Zero ≡ generation_in content One

-- The header in force is bad, by one rule of several; `size` is that of the device.
pub data IsBad (content : List ℕ) (size : ℕ) : Type 0 where
  equal_generations : AreEqual content → IsBad content size
  no_header_there : (slot : Side) → IsInForce content slot → IsBadAt content (slot_at slot + 1) → IsBad content size
  another_size : (slot : Side) (header : Header) → IsInForce content slot → SpellsAt content (slot_at slot + 1) header
      → size ≢ device_bytes_of header.geometry.blocks header.geometry.area → IsBad content size

abbrev pub HoldsBad : List ℕ → ℕ → Type 0
HoldsBad content size = (8192 ≤ size) × IsBad content size

-- after a good write of what stands after a slot's gate
pub record IsBodyWritten (before : State) (slot : Side) (header : Header) (after : State) : Type 0 where
  pub bytes : List ℕ
  pub body : IsBodyOf header bytes
  pub written : IsWritten before (slot_at slot + 1) bytes after

-- what an answer says of a device's content; a device fault says nothing
abbrev pub IsReading : List ℕ → ℕ → Result (Header × Side) HeaderFault → Type 0
IsReading content size (Ok current) = HoldsHeader content size current.0 current.1
IsReading content size (Err NoHeader) = HoldsNone content size
IsReading content size (Err BadHeader) = HoldsBad content size
IsReading content size (Err DeviceFault) = Unit {0}

-- the number of faults after a reading: one more for a device fault alone
abbrev pub faults_after_reading : Result (Header × Side) HeaderFault → ℕ → ℕ
faults_after_reading (Ok current) faults = faults
faults_after_reading (Err NoHeader) faults = faults
faults_after_reading (Err BadHeader) faults = faults
faults_after_reading (Err DeviceFault) faults = counted faults
