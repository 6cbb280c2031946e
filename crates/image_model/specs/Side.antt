-- which of two parts of a device, by docs/FORMATS.md, "Device"
use Rattle.std.specs.Prelude.{ℕ}
use Rattle.image_model.specs.declared.side.Side.{Side}
use Rattle.image_model.specs.declared.side.Side.TheVariants.{Zero, One}

-- 0 or 1
abbrev pub index_of : Side → ℕ
index_of Zero = 0
index_of One = 1

abbrev pub other_of : Side → Side
other_of Zero = One
other_of One = Zero
