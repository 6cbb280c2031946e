-- Which blocks the commands of an area's groups touch, and the last touch of each block.
use Rattle.std.specs.Prelude.{ℕ, ◌+◌, ◌-◌, ◌*◌, ◌/◌, ◌%◌, ◌≤◌, min, if◌then◌else◌, List, [], ◌∷◌, ◌++◌, length, slice_index, Option, Some, None}
use Rattle.std.specs.List.{AllByRecursion}
use Rattle.image_model.specs.declared.command.Kind.{Kind}
use Rattle.image_model.specs.declared.command.Kind.TheVariants.{Data}
use Rattle.image_model.specs.declared.command.Edges.{Edges}
use Rattle.image_model.specs.declared.command.Edges.TheVariants.{Head, Tail, Both}
use Rattle.image_model.specs.Change.{Change, Written, Cleared, Edged}
use Rattle.image_model.specs.Image.{covers}
use Rattle.journal_format.specs.declared.touch.Touch.{Touch}
use Rattle.journal_format.specs.declared.touch.Touch.TheVariants.{Put, Clear}
use Rattle.journal_format.specs.declared.touch.CommandTouch.{CommandTouch}
use Rattle.journal_format.specs.declared.touch.StoredEdges.{StoredEdges}
use Rattle.journal_format.specs.declared.touch.TouchedRange.{TouchedRange}
use Rattle.journal_format.specs.Spelling.{StoredGroup, change_bytes, body_of_group}

-- the last of this many blocks from the first on, as a number of 64 bits
abbrev pub tail_block : ℕ → ℕ → ℕ
tail_block first blocks = (first + (blocks - 1)) % 18446744073709551616

-- The edges of this many blocks from the first on, where this many blocks of bytes stand for them from this place on: one for
-- each, the head's in front.
abbrev pub edge_ranges : ℕ → ℕ → Edges → ℕ → ℕ → List TouchedRange
edge_ranges first blocks Head place stored = record { first = first; blocks = min 1 stored; touch = Put place } ∷ []
edge_ranges first blocks Tail place stored = record { first = tail_block first blocks; blocks = min 1 stored; touch = Put place } ∷ []
edge_ranges first blocks Both place stored = record { first = first; blocks = min 1 stored; touch = Put place }
    ∷ record { first = tail_block first blocks; blocks = min 1 (stored - 1); touch = Put (place + 4096 * min 1 stored) } ∷ []

-- the blocks of a change that stands at this place, and what it makes of them: edges stand over what was cleared
abbrev pub touched_by : ℕ → Change → List TouchedRange
touched_by place (Written first bytes) = record { first = first; blocks = length bytes / 4096; touch = Put (place + 13) } ∷ []
touched_by place (Cleared first blocks kind) = record { first = first; blocks = blocks; touch = Clear kind } ∷ []
touched_by place (Edged first blocks kind edges bytes) =
    record { first = first; blocks = blocks; touch = Clear kind } ∷ edge_ranges first blocks edges (place + 14) (length bytes / 4096)

-- the same of edges that were stored, where there are some
abbrev pub stored_ranges : ℕ → ℕ → Option StoredEdges → List TouchedRange
stored_ranges first blocks None = []
stored_ranges first blocks (Some stored) = edge_ranges first blocks stored.edges stored.place stored.blocks

-- what a command touched, as ranges
abbrev pub ranges_of : CommandTouch → List TouchedRange
ranges_of touch = touch.range ∷ stored_ranges touch.range.first touch.range.blocks touch.edges

-- the same for changes that stand one after another
abbrev pub touched_by_changes : ℕ → List Change → List TouchedRange
touched_by_changes place [] = []
touched_by_changes place (change ∷ changes) = touched_by place change ++ touched_by_changes (place + length (change_bytes change)) changes

-- the same for groups that stand one after another, the first of them with its gate at the place
abbrev pub touched_by_groups : ℕ → List StoredGroup → List TouchedRange
touched_by_groups place [] = []
touched_by_groups place (group ∷ groups) =
    touched_by_changes (place + 17) group.changes ++ touched_by_groups (place + (17 + length (body_of_group group))) groups

-- what a touch of some blocks is for one of them, this many after the first
abbrev pub touch_within : ℕ → Touch → Touch
touch_within blocks (Put place) = Put (place + 4096 * blocks)
touch_within blocks (Clear kind) = Clear kind

-- what the range says of the block
abbrev pub touch_in : ℕ → TouchedRange → Option Touch
touch_in block range = if covers range.first range.blocks block then Some (touch_within (block - range.first) range.touch) else None

-- the later of two touches of a block
abbrev pub later : Option Touch → Option Touch → Option Touch
later touch None = touch
later touch (Some second) = Some second

-- the last touch of a block, where the ranges stand in the order of their commands
abbrev pub last_touch : ℕ → List TouchedRange → Option Touch
last_touch block [] = None
last_touch block (range ∷ ranges) = later (touch_in block range) (last_touch block ranges)

-- the bytes of a put of this many blocks stand between these places of the device
abbrev pub HasBytesWithin : ℕ → ℕ → ℕ → Touch → Type 0
HasBytesWithin from end blocks (Put place) = (from ≤ place) × (place + 4096 * blocks ≤ end)
HasBytesWithin from end blocks (Clear kind) = Unit {0}

abbrev pub IsWithin : ℕ → ℕ → TouchedRange → Type 0
IsWithin from end range = HasBytesWithin from end range.blocks range.touch

-- and those of all puts
abbrev pub AreWithin : ℕ → ℕ → List TouchedRange → Type 0
AreWithin from end ranges = AllByRecursion (IsWithin from end) ranges

-- the state of a block after its last touch, where it was `kind` before all
abbrev pub kind_after : Option Touch → Kind → Kind
kind_after None kind = kind
kind_after (Some (Put place)) kind = Data
kind_after (Some (Clear cleared)) kind = cleared

-- the byte so far after the start of a block after the block's last touch, where it was `byte` before all
abbrev pub byte_after_touch : Option Touch → List ℕ → ℕ → ℕ → ℕ
byte_after_touch None content offset byte = byte
byte_after_touch (Some (Put place)) content offset byte = slice_index content (place + offset)
byte_after_touch (Some (Clear cleared)) content offset byte = 0
