-- The places where a device may be written without changing what it stands for.
use Rattle.std.specs.Prelude.{ℕ, ◌<◌, List}
use Rattle.disk_model.specs.Disk.{InRange}
use Rattle.header_slots.specs.declared.header.Header.{Header}
use Rattle.image_model.specs.Geometry.{map_bytes_of}
use Rattle.image_model.specs.Side.{other_of}
use Rattle.journal_format.specs.Spelling.{StoredGroup}
use Rattle.regions.specs.Layout.{area_at, area_size, areas_in, behind, map_at}
use Rattle.device_image.specs.Keeps.{IsCopyPlace}

-- The place is in an area that isn't in use, after those that are, in the map slot that isn't in force, or in data that are to be copied.
pub data IsFree (header : Header) (front : List (List StoredGroup)) (place : ℕ) : Type 0 where
  in_spare_area : (places : ℕ) → header.before_last < places → places < areas_in header.geometry
      → InRange (area_at header.geometry (behind (areas_in header.geometry) places header.first_area)) (area_size header.geometry) place → IsFree header front place
  in_spare_map : InRange (map_at header.geometry (other_of header.map_slot)) (map_bytes_of header.geometry.blocks) place → IsFree header front place
  to_be_copied : IsCopyPlace header front place → IsFree header front place
