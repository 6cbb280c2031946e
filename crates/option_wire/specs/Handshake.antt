-- What is said before the first option ("Newstyle negotiation" of NBD's proto.md), all numbers big endian.
use Rattle.std.specs.Prelude.{ℕ, Bool, not, ◌==◌, bit_and, List, ◌++◌}
use Rattle.std.specs.Int.{w16, w32, w64, to_be_bytes}
use Rattle.option_wire.specs.declared.handshake.ClientFlags.{ClientFlags}
use Rattle.option_wire.specs.Head.{option_magic}

-- the server's greeting: NBDMAGIC, IHAVEOPT, and the flags FIXED_NEWSTYLE and NO_ZEROES
abbrev pub greeting_bytes : List ℕ
greeting_bytes = to_be_bytes w64 0x4e42444d41474943 ++ option_magic ++ to_be_bytes w16 3

abbrev pub client_bits : ClientFlags → ℕ
client_bits flags = flags.0

-- what the client answers
abbrev pub client_flags_bytes : ClientFlags → List ℕ
client_flags_bytes flags = to_be_bytes w32 (client_bits flags)

-- whether the client sets NO_ZEROES, bit 1, as the greeting does
abbrev pub omits_zeroes : ClientFlags → Bool
omits_zeroes flags = not (bit_and (client_bits flags) 2 == 0)
