-- What an edit of an image is, in bytes, what it makes of an image, and which command it becomes over one.
use Rattle.std.specs.Prelude.{ℕ, ◌≡◌, ◌+◌, ◌-◌, ◌*◌, ◌/◌, ◌%◌, ◌≤◌, ◌<◌, ◌^◌, Bool, true, false, ◌&&◌, ◌==◌, not, max, min, nat_le, nat_lt, if◌then◌else◌, List, ◌++◌, length, map, slice_index}
use Rattle.std.specs.List.{range_with_len}
use Rattle.image_model.specs.declared.command.Edges.TheVariants.{Head, Tail, Both}
use Rattle.image_model.specs.declared.command.Kind.{Kind}
use Rattle.image_model.specs.declared.command.Kind.TheVariants.{Data, Hole}
use Rattle.image_model.specs.declared.edit.Edit.{Edit}
use Rattle.image_model.specs.declared.edit.Edit.TheVariants as edit
use Rattle.image_model.specs.Change.{Change, Written, Cleared, Edged, IsCleared}
use Rattle.image_model.specs.Image.{Image, covers, is_data, last_of}

-- an edit, apart from how the program holds it
pub data ByteEdit : Type 0 where
  -- these bytes stand from the offset on, and each block that they touch is data
  BytesPut : (offset : ℕ) (bytes : List ℕ) → ByteEdit
  -- this many bytes from the offset on are zero, and a block that they touch has this state, but for a data block that they
  -- cover in part, which stays data
  BytesZeroed : (offset count : ℕ) (kind : Kind) → ByteEdit
  -- the blocks that lie wholly within this many bytes from the offset on are holes
  BytesTrimmed : (offset count : ℕ) → ByteEdit

-- the edit that the program holds
abbrev pub edit_of : Edit → ByteEdit
edit_of (edit.Put offset bytes) = BytesPut offset bytes.items
edit_of (edit.Zeroes offset count kind) = BytesZeroed offset count kind
edit_of (edit.Trim offset count) = BytesTrimmed offset count

-- the first byte of an edit, and how many it covers
abbrev pub offset_of : ByteEdit → ℕ
offset_of (BytesPut offset bytes) = offset
offset_of (BytesZeroed offset count kind) = offset
offset_of (BytesTrimmed offset count) = offset

abbrev pub count_of : ByteEdit → ℕ
count_of (BytesPut offset bytes) = length bytes
count_of (BytesZeroed offset count kind) = count
count_of (BytesTrimmed offset count) = count

-- whether this many bytes from the offset on touch the block: one of them is one of its bytes
abbrev pub meets : ℕ → ℕ → ℕ → Bool
meets offset count block = nat_lt (max offset (4096 * block)) (min (offset + count) (4096 * block + 4096))

-- whether all bytes of the block are among them
abbrev pub spans : ℕ → ℕ → ℕ → Bool
spans offset count block = nat_le offset (4096 * block) && nat_le (4096 * block + 4096) (offset + count)

-- whether a block of this state is data that they cover in part
abbrev pub is_partial_data : ℕ → ℕ → ℕ → Kind → Bool
is_partial_data offset count block kind = is_data kind && not (spans offset count block)

-- the byte at a place after an edit, where it was `byte` before
abbrev pub byte_edited : ByteEdit → ℕ → ℕ → ℕ
byte_edited (BytesPut offset bytes) place byte = if covers offset (length bytes) place then slice_index bytes (place - offset) else byte
byte_edited (BytesZeroed offset count kind) place byte = if covers offset count place then 0 else byte
byte_edited (BytesTrimmed offset count) place byte = if spans offset count (place / 4096) then 0 else byte

-- the state of a block after an edit, where it was `old` before
abbrev pub kind_edited : ByteEdit → ℕ → Kind → Kind
kind_edited (BytesPut offset bytes) block old = if meets offset (length bytes) block then Data else old
kind_edited (BytesZeroed offset count kind) block old =
    if meets offset count block && not (is_partial_data offset count block old) then kind else old
kind_edited (BytesTrimmed offset count) block old = if spans offset count block then Hole else old

-- the image after an edit, place by place
abbrev pub apply_edit : ByteEdit → Image → Image
apply_edit edit image = record {
  blocks = image.blocks;
  byte = λ place. byte_edited edit place (image.byte place);
  kind = λ block. kind_edited edit block (image.kind block);
}

-- the bytes of this many blocks of an image
abbrev pub bytes_of : Image → ℕ → ℕ → List ℕ
bytes_of image first blocks = map image.byte (range_with_len (4096 * first) (4096 * blocks))

-- how many blocks bytes touch, the first of which is at the offset: there is one at least
abbrev pub blocks_met : ℕ → ℕ → ℕ
blocks_met offset count = (offset % 4096 + count + 4095) / 4096

-- the first block that begins at the offset or after it, and the first that ends after this many bytes from there on
abbrev pub first_spanned : ℕ → ℕ
first_spanned offset = (offset + 4095) / 4096

abbrev pub end_spanned : ℕ → ℕ → ℕ
end_spanned offset count = (offset + count) / 4096

-- this many blocks are cleared, but for the first and the last of them where it is an edge, which has the bytes given for it
abbrev pub cleared_within : ℕ → ℕ → Kind → Bool → Bool → List ℕ → List ℕ → Change
cleared_within first blocks kind true true head tail = Edged first blocks kind Both (head ++ tail)
cleared_within first blocks kind true false head tail = Edged first blocks kind Head head
cleared_within first blocks kind false true head tail = Edged first blocks kind Tail tail
cleared_within first blocks kind false false head tail = Cleared first blocks kind

-- What an edit becomes over an image, in whole blocks: a put of all blocks that it touches; a clear of them, whose edges are
-- data blocks that it covers in part; a clear of the blocks that it covers wholly, or of none from its own block on.
-- Their bytes are what the image has after the edit.
abbrev pub becomes : ByteEdit → Image → Change
becomes (BytesPut offset bytes) image =
    Written (offset / 4096) (bytes_of (apply_edit (BytesPut offset bytes) image) (offset / 4096) (blocks_met offset (length bytes)))
becomes (BytesZeroed offset count kind) image =
    let first = offset / 4096 in
    let blocks = blocks_met offset count in
    let last = last_of first blocks in
    let after = apply_edit (BytesZeroed offset count kind) image in
    cleared_within first blocks kind
    (is_partial_data offset count first (image.kind first))
    (not (last == first) && is_partial_data offset count last (image.kind last))
    (bytes_of after first 1) (bytes_of after last 1)
becomes (BytesTrimmed offset count) image =
    if nat_lt (first_spanned offset) (end_spanned offset count)
    then Cleared (first_spanned offset) (end_spanned offset count - first_spanned offset) Hole
    else Cleared (offset / 4096) 0 Hole

-- an edit that an image of this many blocks takes: at least one byte, a put of at most 1,048,576
abbrev pub IsEditKind : ByteEdit → Type 0
IsEditKind (BytesPut offset bytes) = length bytes ≤ 1048576
IsEditKind (BytesZeroed offset count kind) = (count < 2 ^ 32) × IsCleared kind
IsEditKind (BytesTrimmed offset count) = count < 2 ^ 32

pub record IsEdit (blocks : ℕ) (edit : ByteEdit) : Type 0 where
  pub some : 1 ≤ count_of edit
  pub inside : offset_of edit + count_of edit ≤ 4096 * blocks
  pub kind : IsEditKind edit

-- an image that has zero bytes alone in blocks that aren't data
abbrev pub IsZeroElsewhere : Image → Type 0
IsZeroElsewhere image = (block offset : ℕ) → offset < 4096 → is_data (image.kind block) ≡ false → image.byte (4096 * block + offset) ≡ 0
