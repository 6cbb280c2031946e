-- What stands before the data of an option ("Option haggling" of NBD's proto.md), all numbers big endian.
use Rattle.std.specs.Prelude.{ℕ, List, ◌++◌}
use Rattle.std.specs.Int.{w32, w64, to_be_bytes}

-- IHAVEOPT, the eight bytes that an option begins with
abbrev pub option_magic : List ℕ
option_magic = to_be_bytes w64 0x49484156454f5054

-- the 16 bytes before the data: the option's number, and how many bytes of data follow
unfoldable pub option_head : ℕ → ℕ → List ℕ
option_head code size = option_magic ++ to_be_bytes w32 code ++ to_be_bytes w32 size
