-- What an EXPORT_NAME is answered, which is no option reply, all numbers big endian ("Newstyle negotiation" of NBD's proto.md).
use Rattle.std.specs.Prelude.{ℕ, List, [], ◌++◌, if◌then◌else◌, replicate}
use Rattle.std.specs.Int.{w16, w64, to_be_bytes}
use Rattle.option_wire.specs.declared.export.ExportAnswer.{ExportAnswer}

-- the size of the export, its transmission flags, and perhaps 124 zero bytes
abbrev pub export_bytes : ExportAnswer → List ℕ
export_bytes answer =
    to_be_bytes w64 answer.size ++ to_be_bytes w16 answer.flags ++ (if answer.zeroes then replicate 124 0 else [])
