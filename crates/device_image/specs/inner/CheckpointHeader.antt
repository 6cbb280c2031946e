-- how the header changes where a checkpoint begins and where it ends
use Rattle.std.specs.Prelude.{ℕ, ◌+◌, ◌-◌}
use Rattle.header_slots.specs.declared.change.HeaderChange.{HeaderChange}
use Rattle.header_slots.specs.declared.header.Header.{Header}
use Rattle.image_model.specs.Side.{other_of}
use Rattle.regions.specs.Layout.{areas_in, next_of}

-- the next area is in use too, after those that were
abbrev pub with_next : Header → HeaderChange
with_next header = record { before_last = header.before_last + 1; first_area = header.first_area; map_slot = header.map_slot; base = header.base }

-- the first area is no longer in use, the other map slot is in force, and the base is this number
abbrev pub without_first : Header → ℕ → HeaderChange
without_first header base = record {
  before_last = header.before_last - 1;
  first_area = next_of (areas_in header.geometry) header.first_area;
  map_slot = other_of header.map_slot;
  base = base;
}
