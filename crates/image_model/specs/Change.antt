-- what a write command does, apart from how the program holds it
use Rattle.std.specs.Prelude.{ℕ, ◌≡◌, ◌+◌, ◌*◌, ◌≤◌, ◌<◌, ◌^◌, List, length}
use Rattle.std.specs.List.{AllByRecursion}
use Rattle.image_model.specs.declared.command.Command.{Command}
use Rattle.image_model.specs.declared.command.Command.TheVariants as command
use Rattle.image_model.specs.declared.command.Edges.{Edges}
use Rattle.image_model.specs.declared.command.Edges.TheVariants.{Head, Tail, Both}
use Rattle.image_model.specs.declared.command.Kind.{Kind}
use Rattle.image_model.specs.declared.command.Kind.TheVariants.{Data, Zero, Hole}

-- a change of an image, in whole blocks of 4,096 bytes
pub data Change : Type 0 where
  -- these bytes stand in the blocks from the first on
  Written : (first : ℕ) (bytes : List ℕ) → Change
  -- this many blocks from the first on read as zero, and have this state
  Cleared : (first blocks : ℕ) (kind : Kind) → Change
  -- the same, but in the edges of these blocks stand these bytes
  Edged : (first blocks : ℕ) (kind : Kind) (edges : Edges) (bytes : List ℕ) → Change

-- the change that a command makes
abbrev pub change_of : Command → Change
change_of (command.Put first bytes) = Written first bytes.items
change_of (command.Clear first blocks kind) = Cleared first blocks kind
change_of (command.Edged first blocks kind edges bytes) = Edged first blocks kind edges bytes.items

-- how many blocks the edges are
abbrev pub edge_count : Edges → ℕ
edge_count Head = 1
edge_count Tail = 1
edge_count Both = 2

-- how many blocks there are at least where these are edges: the tail is another block than the first
abbrev pub least_blocks : Edges → ℕ
least_blocks Head = 1
least_blocks Tail = 2
least_blocks Both = 2

-- a kind that cleared blocks may have
abbrev pub IsCleared : Kind → Type 0
IsCleared Data = ⊥
IsCleared Zero = Unit {0}
IsCleared Hole = Unit {0}

-- A change that an image of this many blocks takes: 1 to 257 blocks of bytes, or blocks cleared, with or without edges. No
-- block at all is cleared to holes alone, by a trim that covers no whole block. Counts have 32 bits, and the number of an
-- edge 64.
abbrev pub IsChange : ℕ → Change → Type 0
IsChange image (Written first bytes) =
    (blocks : ℕ) × (length bytes ≡ 4096 * blocks) × (1 ≤ blocks) × (blocks ≤ 257) × (first + blocks ≤ image)
IsChange image (Cleared first blocks kind) =
    (kind ≡ Zero → 1 ≤ blocks) × (first + blocks ≤ image) × (blocks < 2 ^ 32) × IsCleared kind
IsChange image (Edged first blocks kind edges bytes) =
    (least_blocks edges ≤ blocks) × (first + blocks ≤ image) × (blocks < 2 ^ 32) × IsCleared kind × (length bytes ≡ 4096 * edge_count edges)
    × (first + blocks ≤ 2 ^ 64)

-- changes that an image of this many blocks takes
abbrev pub AreChanges : ℕ → List Change → Type 0
AreChanges image changes = AllByRecursion (IsChange image) changes
