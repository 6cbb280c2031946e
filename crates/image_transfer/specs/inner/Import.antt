-- Definitions for contracts between functions of this crate, next to those of `Import`.
use Rattle.std.specs.Prelude.{ℕ, ◌≡◌, ◌+◌, ◌*◌, ◌<◌, ◌≤◌, ◌⊎◌, List, length, slice_index}
use Rattle.alloc_map.specs.Codes.{state_at}
use Rattle.header_slots.specs.Slots.{HoldsNone}
use Rattle.image_model.specs.declared.command.Kind.{Kind}
use Rattle.image_model.specs.declared.command.Kind.TheVariants.{Data, Hole}
use Rattle.image_model.specs.declared.geometry.Geometry.{Geometry}
use Rattle.image_transfer.specs.Import.{IsZeroBlock}
use Rattle.image_transfer.specs.inner.Zeroes.{AreZeroes}
use Rattle.regions.specs.Layout.{block_at}

-- no header is in force
abbrev pub LeavesNone : List ℕ → Type 0
LeavesNone content = HoldsNone content (length content)

-- Map and data hold the block of these bytes: it is a hole if all its bytes are zero, and otherwise data, which stand in its place.
abbrev pub IsBlockFilled : (ℕ → ℕ) → Geometry → List ℕ → List Kind → ℕ → Type 0
IsBlockFilled byte geometry content states block =
    (IsZeroBlock byte block × (state_at states block ≡ Hole))
    ⊎ ((IsZeroBlock byte block → ⊥) × (state_at states block ≡ Data)
    × ((offset : ℕ) → offset < 4096 → slice_index content (block_at geometry 0 + (4096 * block + offset)) ≡ byte (4096 * block + offset)))

-- Map and data hold the blocks before this one, and the others are holes in the map.
pub record IsFilled (byte : ℕ → ℕ) (geometry : Geometry) (content : List ℕ) (states : List Kind) (done : ℕ) : Type 0 where
  pub each : (block : ℕ) → block < done → IsBlockFilled byte geometry content states block
  pub left : (block : ℕ) → done ≤ block → state_at states block ≡ Hole

-- the buffer has the bytes of the blocks from the first on
abbrev pub AreBytesOf : (ℕ → ℕ) → ℕ → List ℕ → Type 0
AreBytesOf byte first bytes = (k : ℕ) → k < length bytes → slice_index bytes k ≡ byte (4096 * first + k)

-- each block of the buffer from one on and before another is all zero
abbrev pub AreZeroBlocks : List ℕ → ℕ → ℕ → Type 0
AreZeroBlocks bytes from to = (block : ℕ) → from ≤ block → block < to → AreZeroes bytes (4096 * block) 4096

-- and none of them is
abbrev pub AreSomeIn : List ℕ → ℕ → ℕ → Type 0
AreSomeIn bytes from to = (block : ℕ) → from ≤ block → block < to → AreZeroes bytes (4096 * block) 4096 → ⊥
