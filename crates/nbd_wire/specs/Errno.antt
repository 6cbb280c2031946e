-- The numbers of errors on the wire ("Error values" of NBD's proto.md).
use Rattle.std.specs.Prelude.{ℕ}
use Rattle.nbd_wire.specs.declared.error.Errno.{Errno}
use Rattle.nbd_wire.specs.declared.error.Errno.TheVariants.{Io, NoMemory, Invalid, NoSpace}

abbrev pub errno_number : Errno → ℕ
errno_number Io = 5
errno_number NoMemory = 12
errno_number Invalid = 22
errno_number NoSpace = 28
