-- What an image holds, place by place, and what commands make of it. A block has 4,096 bytes.
use Rattle.std.specs.Prelude.{ℕ, ◌+◌, ◌-◌, ◌*◌, ◌/◌, ◌%◌, Bool, true, false, ◌&&◌, ◌==◌, nat_le, nat_lt, if◌then◌else◌, Option, Some, None, List, [], ◌∷◌, length, slice_index}
use Rattle.std.specs.Option.{is_some}
use Rattle.image_model.specs.declared.command.Edges.{Edges}
use Rattle.image_model.specs.declared.command.Edges.TheVariants.{Head, Tail, Both}
use Rattle.image_model.specs.declared.command.Kind.{Kind}
use Rattle.image_model.specs.declared.command.Kind.TheVariants.{Data, Zero, Hole}
use Rattle.image_model.specs.Change.{Change, Written, Cleared, Edged}

-- how many blocks there are, which byte stands at each place, and the state of each block; past the end they are 0 and a hole
pub record Image : Type 0 where
  pub blocks : ℕ
  pub byte : ℕ → ℕ
  pub kind : ℕ → Kind

-- whether `count` places from `first` on cover this one
abbrev pub covers : ℕ → ℕ → ℕ → Bool
covers first count place = nat_le first place && nat_lt place (first + count)

-- the first block of a change, and how many it covers
abbrev pub first_of : Change → ℕ
first_of (Written first bytes) = first
first_of (Cleared first blocks kind) = first
first_of (Edged first blocks kind edges bytes) = first

abbrev pub blocks_of : Change → ℕ
blocks_of (Written first bytes) = (length bytes + 4095) / 4096
blocks_of (Cleared first blocks kind) = blocks
blocks_of (Edged first blocks kind edges bytes) = blocks

-- the last of this many blocks from the first on
abbrev pub last_of : ℕ → ℕ → ℕ
last_of first blocks = first + blocks - 1

-- whether the change touches the block
abbrev pub touches : ℕ → Change → Bool
touches block change = covers (first_of change) (blocks_of change) block

-- the bytes that a change brings
abbrev pub data_of : Change → List ℕ
data_of (Written first bytes) = bytes
data_of (Cleared first blocks kind) = []
data_of (Edged first blocks kind edges bytes) = bytes

-- where in its bytes those of an edge stand, if the block is one: whether it is the first and whether it is the last are told
abbrev pub edge_slot : Edges → Bool → Bool → Option ℕ
edge_slot Head is_first is_last = if is_first then Some 0 else None
edge_slot Tail is_first is_last = if is_last then Some 0 else None
edge_slot Both is_first is_last = if is_first then Some 0 else (if is_last then Some 4096 else None)

-- The place in a change's bytes where those of the block stand, if the change makes the block data: this alone says which blocks it
-- writes, and with what.
abbrev pub slot : ℕ → Change → Option ℕ
slot block (Written first bytes) = if touches block (Written first bytes) then Some (4096 * (block - first)) else None
slot block (Cleared first blocks kind) = None
slot block (Edged first blocks kind edges bytes) =
    if covers first blocks block then edge_slot edges (block == first) (block == last_of first blocks) else None

-- whether the change makes the block data
abbrev pub writes : ℕ → Change → Bool
writes block change = is_some (slot block change)

-- whether a state is that of bytes that were written
abbrev pub is_data : Kind → Bool
is_data Data = true
is_data Zero = false
is_data Hole = false

-- the state that a change gives to a block that it touches and doesn't write
abbrev pub kind_given : Change → Kind
kind_given (Written first bytes) = Data
kind_given (Cleared first blocks kind) = kind
kind_given (Edged first blocks kind edges bytes) = kind

-- what a touched block becomes: data with the bytes from its slot on, or this state and zero bytes
abbrev pub kind_in : Option ℕ → Kind → Kind
kind_in None kind = kind
kind_in (Some at) kind = Data

abbrev pub byte_in : Option ℕ → List ℕ → ℕ → ℕ
byte_in None bytes offset = 0
byte_in (Some at) bytes offset = slice_index bytes (at + offset)

-- the byte so far after the start of a block after a change, where it was `byte` before
abbrev pub byte_after : ℕ → ℕ → Change → ℕ → ℕ
byte_after block offset change byte = if touches block change then byte_in (slot block change) (data_of change) offset else byte

-- the image after a change, as large as before: a block that the change doesn't touch keeps its bytes and its state
abbrev pub apply : Change → Image → Image
apply change image = record {
  blocks = image.blocks;
  byte = λ place. byte_after (place / 4096) (place % 4096) change (image.byte place);
  kind = λ block. if touches block change then kind_in (slot block change) (kind_given change) else image.kind block;
}

-- the image after changes, the first of them first
abbrev pub apply_all : List Change → Image → Image
apply_all [] image = image
apply_all (change ∷ changes) image = apply_all changes (apply change image)
