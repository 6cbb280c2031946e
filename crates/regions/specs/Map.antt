-- the map that stands in a map slot, by docs/FORMATS.md, "Map slot"
use Rattle.std.specs.Prelude.{ℕ, ◌≡◌, ◌+◌, ◌<◌, List, length, slice_index, Result, Ok, Err}
use Rattle.alloc_map.specs.Map.{IsMapOf, IsBadMap}
use Rattle.alloc_map.specs.declared.map.AllocMap.{AllocMap}
use Rattle.disk_model.specs.Faults.{counted}
use Rattle.image_model.specs.Geometry.{map_bytes_of}
use Rattle.image_model.specs.declared.command.Kind.{Kind}
use Rattle.regions.specs.declared.fault.RegionFault.{RegionFault}
use Rattle.regions.specs.declared.fault.RegionFault.TheVariants.{NoMemory, DeviceFault, BadMap}

-- These are the bytes of the map slot that begins at this place, on a device of this many blocks.
pub record AreSlot (content : List ℕ) (place blocks : ℕ) (bytes : List ℕ) : Type 0 where
  pub size : length bytes ≡ map_bytes_of blocks
  pub same : (k : ℕ) → k < map_bytes_of blocks → slice_index bytes k ≡ slice_index content (place + k)

-- The map slot that begins at this place holds the map of these states.
pub record HoldsMap (content : List ℕ) (place blocks : ℕ) (states : List Kind) : Type 0 where
  pub bytes : List ℕ
  pub slot : AreSlot content place blocks bytes
  pub count : length states ≡ blocks
  pub map : IsMapOf bytes states

-- The map slot that begins at this place holds no map.
pub record HoldsBadMap (content : List ℕ) (place blocks : ℕ) : Type 0 where
  pub bytes : List ℕ
  pub slot : AreSlot content place blocks bytes
  pub bad : IsBadMap blocks bytes

-- what an answer says of a device's content; a device fault and want of memory say nothing
abbrev pub IsMapReading : List ℕ → ℕ → ℕ → Result AllocMap RegionFault → Type 0
IsMapReading content place blocks (Ok map) = HoldsMap content place blocks map
IsMapReading content place blocks (Err BadMap) = HoldsBadMap content place blocks
IsMapReading content place blocks (Err NoMemory) = Unit {0}
IsMapReading content place blocks (Err DeviceFault) = Unit {0}

-- the number of faults after a reading: one more for a device fault alone
abbrev pub faults_after_reading : Result AllocMap RegionFault → ℕ → ℕ
faults_after_reading (Ok map) faults = faults
faults_after_reading (Err BadMap) faults = faults
faults_after_reading (Err NoMemory) faults = faults
faults_after_reading (Err DeviceFault) faults = counted faults
