-- the sizes of a device's parts, by docs/FORMATS.md, "Device"
use Rattle.std.specs.Prelude.{ℕ, ◌+◌, ◌*◌, ◌/◌}

-- the bytes of a map slot: two bits a block, in whole blocks of 4,096 bytes
abbrev pub map_bytes_of : ℕ → ℕ
map_bytes_of blocks = 4096 * ((blocks + 16383) / 16384)

-- the bytes of a device: two header slots, the areas, two map slots, the data
abbrev pub device_bytes_of : ℕ → ℕ → ℕ
device_bytes_of blocks area = 8192 + 2 * area + 2 * map_bytes_of blocks + 4096 * blocks
