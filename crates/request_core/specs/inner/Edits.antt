-- Definitions for contracts between functions of this crate.
use Rattle.std.specs.Prelude.{◌≡◌, vec_len}
use Rattle.image_model.specs.declared.edit.Edit.{Edit}
use Rattle.image_model.specs.declared.edit.Edit.TheVariants as edit
use Rattle.nbd_wire.specs.Request.{handed_len}
use Rattle.nbd_wire.specs.declared.head.RequestHead.{RequestHead}

-- the edit is one that a request with this head asks for, with as many bytes as were handed on
abbrev pub IsHandedBack : RequestHead → Edit → Type 0
IsHandedBack head (edit.Put offset bytes) = vec_len bytes ≡ handed_len head
IsHandedBack head (edit.Zeroes offset length kind) = handed_len head ≡ 0
IsHandedBack head (edit.Trim offset length) = handed_len head ≡ 0
