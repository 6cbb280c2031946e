-- the journal areas of a device, by docs/FORMATS.md, "Device"
use Rattle.std.specs.Prelude.{ℕ, ◌≡◌, ◌*◌, ◌/◌, ◌%◌, ◌≤◌}
use Rattle.image_model.specs.declared.layout.Layout.{Layout}
use Rattle.image_model.specs.declared.layout.Layout.TheVariants.{One, Two}

-- how many there are
abbrev pub areas_of : Layout → ℕ
areas_of One = 2
areas_of Two = 4

-- the bytes of each, where a geometry's area has this many: all of them together have twice as many
abbrev pub area_size_of : Layout → ℕ → ℕ
area_size_of One area = area
area_size_of Two area = area / 2

-- this many blocks, and areas of this many bytes each, are within the limits of a layout
abbrev pub AreSizesOf : Layout → ℕ → ℕ → Type 0
AreSizesOf One blocks size = (1 ≤ blocks) × (blocks ≤ 16777216) × (2097152 ≤ size) × (size ≤ 1073741824) × (size % 8192 ≡ 0)
AreSizesOf Two blocks size = (1 ≤ blocks) × (blocks ≤ 16777216) × (2097152 ≤ size) × (2 * size ≤ 1073741824) × (2 * size % 8192 ≡ 0)
