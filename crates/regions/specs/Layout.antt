-- where the parts of a device stand, by docs/FORMATS.md, "Device"
use Rattle.std.specs.Prelude.{ℕ, zero, suc, ◌+◌, ◌*◌, ◌==◌, if◌then◌else◌, List, [], ◌∷◌}
use Rattle.image_model.specs.Geometry.{map_bytes_of}
use Rattle.image_model.specs.Layout.{area_size_of, areas_of}
use Rattle.image_model.specs.declared.geometry.Geometry.{Geometry}
use Rattle.image_model.specs.Side.{index_of}
use Rattle.image_model.specs.declared.side.Side.{Side}

-- how many areas a device has, which are numbers below it
abbrev pub areas_in : Geometry → ℕ
areas_in geometry = areas_of geometry.layout

-- the bytes of an area
abbrev pub area_size : Geometry → ℕ
area_size geometry = area_size_of geometry.layout geometry.area

-- the first byte of an area
abbrev pub area_at : Geometry → ℕ → ℕ
area_at geometry area = 8192 + area_size geometry * area

-- the first byte of a map slot
abbrev pub map_at : Geometry → Side → ℕ
map_at geometry slot = 8192 + 2 * geometry.area + map_bytes_of geometry.blocks * index_of slot

-- the first byte of a block's data
abbrev pub block_at : Geometry → ℕ → ℕ
block_at geometry block = 8192 + 2 * geometry.area + 2 * map_bytes_of geometry.blocks + 4096 * block

-- the area that follows this one in a ring of N
abbrev pub next_of : ℕ → ℕ → ℕ
next_of count area = if area + 1 == count then 0 else area + 1

-- this many areas in the order of the ring, this one first
abbrev pub ring : ℕ → ℕ → ℕ → List ℕ
ring count zero area = []
ring count (suc n) area = area ∷ ring count n (next_of count area)

-- the area this many places after this one in the ring
abbrev pub behind : ℕ → ℕ → ℕ → ℕ
behind count zero area = area
behind count (suc n) area = behind count n (next_of count area)
