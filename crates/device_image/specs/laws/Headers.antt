-- The header in force where a checkpoint has begun, and where it has ended.
use Rattle.std.proofs.Common.{◌≡◌, ℕ, suc, ◌+◌, ◌<◌, arith}
use Rattle.header_slots.specs.declared.header.Header.{Header}
use Rattle.image_model.specs.Side.{other_of}
use Rattle.regions.specs.Layout.{areas_in, next_of}
use Rattle.regions.specs.laws.Ring.{next_below}

-- with the next area in use, after those that were
abbrev pub begun : (header : Header) → suc header.before_last < areas_in header.geometry → Header
begun header room = record header { generation = header.generation + 1; before_last = suc header.before_last; few_areas = room }

pub fewer : (header : Header) (rest : ℕ) → header.before_last ≡ suc rest → rest < areas_in header.geometry
fewer header rest is = let few = header.few_areas in omega (arith, few, is)

-- without the first of them, where this many others stand before the last
abbrev pub ended : (header : Header) (rest : ℕ) → header.before_last ≡ suc rest → ℕ → Header
ended header rest is base = record header {
  generation = header.generation + 1;
  before_last = rest;
  first_area = next_of (areas_in header.geometry) header.first_area;
  map_slot = other_of header.map_slot;
  base = base;
  few_areas = fewer header rest is;
  first_inside = next_below (areas_in header.geometry) header.first_area header.first_inside;
}
