-- big-endian numbers in a device's content
use Rattle.std.specs.Prelude.{ℕ, List}
use Rattle.byteorder.specs.Endian.{big_from}

-- the big-endian number in this many bytes from a place on
unfoldable pub number_at : ℕ → ℕ → List ℕ → ℕ
number_at place count content = big_from place count content
