-- the image that is made of bytes, and what a crash leaves while it is made
use Rattle.std.specs.Prelude.{ℕ, ◌≡◌, ◌+◌, ◌*◌, ◌<◌, ◌≤◌, ◌⊎◌, List, length}
use Rattle.checkpoint.specs.Format.{IsMade, LeavesButGates}
use Rattle.disk_model.specs.Disk.{State}
use Rattle.disk_model.specs.Faults.{counted}
use Rattle.header_slots.specs.Slots.{HoldsNone}
use Rattle.image_model.specs.Image.{Image}
use Rattle.image_model.specs.declared.command.Kind.TheVariants.{Data, Hole}
use Rattle.image_model.specs.declared.geometry.Geometry.{Geometry}
use Rattle.image_transfer.specs.declared.fault.TransferFault.{TransferFault}
use Rattle.image_transfer.specs.declared.fault.TransferFault.TheVariants.{NoMemory, Source, Target}

-- all bytes of the block are zero
abbrev pub IsZeroBlock : (ℕ → ℕ) → ℕ → Type 0
IsZeroBlock byte block = (offset : ℕ) → offset < 4096 → byte (4096 * block + offset) ≡ 0

-- The image has the first of these bytes, in this many blocks: one is a hole if all its bytes are zero, and otherwise data.
pub record IsImageOf (byte : ℕ → ℕ) (count : ℕ) (image : Image) : Type 0 where
  pub blocks : image.blocks ≡ count
  pub bytes : (place : ℕ) → place < 4096 * count → image.byte place ≡ byte place
  pub holes : (block : ℕ) → block < count → IsZeroBlock byte block → image.kind block ≡ Hole
  pub written : (block : ℕ) → block < count → (IsZeroBlock byte block → ⊥) → image.kind block ≡ Data
  pub bytes_behind : (place : ℕ) → 4096 * count ≤ place → image.byte place ≡ 0
  pub holes_behind : (block : ℕ) → count ≤ block → image.kind block ≡ Hole

-- A device was made the image of these bytes.
abbrev pub IsImported : (ℕ → ℕ) → Geometry → List ℕ → Type 0
IsImported byte geometry content = (image : Image) × IsImageOf byte geometry.blocks image × IsMade content geometry image

-- What a crash leaves while that is done: at first what it might have left before, but for the gates of the headers; then no header is
-- in force; at last the image.
abbrev pub LeavesImport : State → (ℕ → ℕ) → Geometry → List ℕ → Type 0
LeavesImport state byte geometry content = LeavesButGates state content ⊎ (HoldsNone content (length content) ⊎ IsImported byte geometry content)

-- A device was made an image of this size, whatever it has.
abbrev pub IsSomeImage : Geometry → List ℕ → Type 0
IsSomeImage geometry content = (image : Image) × IsMade content geometry image

-- What a crash leaves meanwhile, whatever the source reads as.
abbrev pub LeavesSomeImage : State → Geometry → List ℕ → Type 0
LeavesSomeImage state geometry content = LeavesButGates state content ⊎ (HoldsNone content (length content) ⊎ IsSomeImage geometry content)

-- the number of faults of the device after this one: one more where it failed
abbrev pub faults_by : TransferFault → ℕ → ℕ
faults_by NoMemory faults = faults
faults_by Source faults = faults
faults_by Target faults = counted faults
