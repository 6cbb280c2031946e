-- what an opening finds, and what it refuses
use Rattle.std.specs.Prelude.{ℕ, ◌≡◌, ◌⊎◌, ◌+◌, ◌<◌, List, [], ◌∷◌, length, Result, Ok, Err}
use mathlib.Core.Logic.{inl, inr}
use Rattle.header_slots.specs.Slots.{HoldsHeader, HoldsNone, HoldsBad}
use Rattle.header_slots.specs.declared.header.Header.{Header}
use Rattle.image_model.specs.declared.side.Side.{Side}
use Rattle.image_model.specs.Image.{Image}
use Rattle.disk_model.specs.Disk.{State, IsAllSynced, IsSyncFailed, LeavesOnly, MayLeave}
use Rattle.journal_format.specs.GroupList.{IsList}
use Rattle.journal_format.specs.Spelling.{StoredGroup}
use Rattle.device_image.specs.Keeper.{KeeperState}
use Rattle.checkpoint.specs.Headers.{HeadersFollowUpTo}
use Rattle.checkpoint.specs.Keeper.{faults_by}
use Rattle.device_image.specs.Keeps.{Keeps}
use Rattle.device_image.specs.Damage.{HasBadMap, HasDamagedGroup}
use Rattle.device_image.specs.Stands.{StandsFor, area_of, next_number}
use Rattle.checkpoint.specs.declared.fault.KeeperFault.{KeeperFault}
use Rattle.checkpoint.specs.declared.fault.KeeperFault.TheVariants.{NoMemory, DeviceFault, BadMap, NoHeader, BadHeader, NumbersFull, AreaFull, OutOfOrder, DamagedGroup, NotNow, Failed, AreaSmall}

-- what a refusal of an opening says of the content; want of memory and a device fault say nothing of it
abbrev pub IsRefused : KeeperFault → List ℕ → Type 0
IsRefused NoMemory content = Unit {0}
IsRefused DeviceFault content = Unit {0}
IsRefused BadMap content = HasBadMap content
IsRefused NoHeader content = HoldsNone content (length content)
IsRefused BadHeader content = HoldsBad content (length content)
IsRefused NumbersFull content = ⊥
IsRefused AreaFull content = ⊥
IsRefused OutOfOrder content = ⊥
IsRefused DamagedGroup content = HasDamagedGroup content
IsRefused NotNow content = ⊥
IsRefused Failed content = ⊥
IsRefused AreaSmall content = ⊥

-- a refusal that comes of a content which stands for an image too
abbrev pub IsPassing : KeeperFault → Type 0
IsPassing NoMemory = Unit {0}
IsPassing DeviceFault = Unit {0}
IsPassing BadMap = ⊥
IsPassing NoHeader = ⊥
IsPassing BadHeader = ⊥
IsPassing NumbersFull = Unit {0}
IsPassing AreaFull = ⊥
IsPassing OutOfOrder = ⊥
IsPassing DamagedGroup = ⊥
IsPassing NotNow = ⊥
IsPassing Failed = ⊥
IsPassing AreaSmall = ⊥

-- the device after an opening, which a refusal hands back
abbrev pub disk_after : {D : Type 0} → Result (KeeperState D) (KeeperFault × D) → D
disk_after (Ok keeper) = keeper.disk
disk_after (Err refused) = refused.1

-- the number of faults after an opening
abbrev pub faults_after_opening : {D : Type 0} → Result (KeeperState D) (KeeperFault × D) → ℕ → ℕ
faults_after_opening (Ok keeper) faults = faults
faults_after_opening (Err refused) faults = faults_by refused.0 faults

-- the content stands for the image and the number that the one which was found stands for
abbrev pub StandsAs : List ℕ → List ℕ → Type 0
StandsAs found content = (image : Image) × (number : ℕ) × StandsFor found image number × StandsFor content image number

-- the content is the one that was found, or stands for the same
abbrev pub IsAsFound : List ℕ → List ℕ → Type 0
IsAsFound found content = (content ≡ found) ⊎ StandsAs found content

-- A sync of an opening was good: until then a crash left what it could leave at the start, and after it nothing but the content
-- found. From then on, at every moment and after a refusal too, all that a crash may leave is as found.
pub record IsFixed {D : Type 0} (before : State) (state : D → State) (after : State) (found : List ℕ) : Type 0 where
  -- the device after that sync
  pub first : D
  pub synced : IsAllSynced (state first)
  pub seen : (state first).seen ≡ found
  pub until_then : LeavesOnly before (state first) (MayLeave before)
  pub from_then : LeavesOnly (state first) after (IsAsFound found)

-- No sync of an opening was good, and the opening failed: the device is as a failed sync leaves it, and all that a crash may
-- leave, or might have left, it could leave at the start.
abbrev pub IsUnfixed : {D : Type 0} → State → (D → State) → Result (KeeperState D) (KeeperFault × D) → Type 0
IsUnfixed before state (Ok keeper) = ⊥
IsUnfixed before state (Err refused) = (refused.0 ≡ DeviceFault) × IsSyncFailed before (state refused.1) × LeavesOnly before (state refused.1) (MayLeave before)

-- what a crash may leave from the start of an opening to its end, with a good sync or without one
abbrev pub IsFixedOrNot : {D : Type 0} → State → (D → State) → Result (KeeperState D) (KeeperFault × D) → List ℕ → Type 0
IsFixedOrNot before state result found = IsFixed before state (state (disk_after result)) found ⊎ IsUnfixed before state result

-- No generation is greater than that of the header in force.
pub record HasLastGeneration (content : List ℕ) : Type 0 where
  pub header : Header
  pub slot : Side
  pub in_force : HoldsHeader content (length content) header slot
  pub last : header.generation ≡ 18446744073709551615

-- One area is in use, and its list is empty.
pub record IsAtRest (content : List ℕ) : Type 0 where
  pub header : Header
  pub slot : Side
  pub in_force : HoldsHeader content (length content) header slot
  pub one : header.before_last ≡ 0
  pub list : IsList (area_of header.geometry header.first_area) (next_number header.base) [] content

-- How many headers it takes to empty the last area in use: none if its list is empty; otherwise one that takes another area into
-- use, and one that lets this area go.
abbrev pub headers_for_last : List StoredGroup → ℕ
headers_for_last [] = 0
headers_for_last (group ∷ groups) = 2

-- the same for this area and those after it: each area before the last takes one header, which lets it go
abbrev pub headers_from : List StoredGroup → List (List StoredGroup) → ℕ
headers_from groups [] = headers_for_last groups
headers_from groups (next ∷ lists) = headers_from next lists + 1

-- How many headers an opening writes if the areas in use hold these lists.
abbrev pub headers_for : List (List StoredGroup) → ℕ
headers_for [] = 0
headers_for (groups ∷ lists) = headers_from groups lists

-- Nothing but the content found is left, or that stands for an image, and at most as many headers come into force as it takes to
-- empty its journal, each with the generation after the one before it, in the sizes and the layout found.
abbrev pub IsEmptiedInTurn : {D : Type 0} → (D → State) → List ℕ → State → State → Type 0
IsEmptiedInTurn state found first after =
    LeavesOnly first after (λ content. content ≡ found)
    ⊎ ((image : Image) × (number : ℕ) × (stands : StandsFor found image number) × HeadersFollowUpTo state stands.header.geometry stands.header.generation (headers_for stands.lists) first after)

-- the same from the first good sync of an opening to its end
abbrev pub AreHeadersInTurn : {D : Type 0} (before : State) (state : D → State) (result : Result (KeeperState D) (KeeperFault × D)) (found : List ℕ) → IsFixedOrNot before state result found → Type 0
AreHeadersInTurn before state result found (inl is) = IsEmptiedInTurn state found (state is.first) (state (disk_after result))
AreHeadersInTurn before state result found (inr failed) = Unit {0}

-- The content stands for an image, and fewer generations follow that of its header than an opening writes headers.
abbrev pub LacksGenerations : List ℕ → Type 0
LacksGenerations content = (image : Image) × (number : ℕ) × (stands : StandsFor content image number) × (18446744073709551615 < stands.header.generation + headers_for stands.lists)

-- What a refusal of an opening says of the content that it found, and of what is read after it: where the numbers are full
-- it stands for the same, and the recovery wants another header.
abbrev pub IsOpeningRefused : KeeperFault → List ℕ → List ℕ → Type 0
IsOpeningRefused NoMemory found after = Unit {0}
IsOpeningRefused DeviceFault found after = Unit {0}
IsOpeningRefused BadMap found after = HasBadMap found
IsOpeningRefused NoHeader found after = HoldsNone found (length found)
IsOpeningRefused BadHeader found after = HoldsBad found (length found)
IsOpeningRefused NumbersFull found after = StandsAs found after × HasLastGeneration after × (IsAtRest after → ⊥) × LacksGenerations found
IsOpeningRefused AreaFull found after = ⊥
IsOpeningRefused OutOfOrder found after = ⊥
IsOpeningRefused DamagedGroup found after = HasDamagedGroup found
IsOpeningRefused NotNow found after = ⊥
IsOpeningRefused Failed found after = ⊥
IsOpeningRefused AreaSmall found after = ⊥

-- What an outcome says of the content that was found: sizes and layout stay, and each header that was written has the generation
-- after the one before it.
abbrev pub IsOutcome : {D : Type 0} → (D → State) → Result (KeeperState D) (KeeperFault × D) → List ℕ → Type 0
IsOutcome state (Ok keeper) found =
    (image : Image) × (stands : StandsFor found image keeper.count) × Keeps keeper (state keeper.disk) image keeper.count × (keeper.base ≡ keeper.count)
    × (keeper.geometry ≡ stands.header.geometry) × (keeper.generation ≡ stands.header.generation + headers_for stands.lists)
IsOutcome state (Err refused) found = IsOpeningRefused refused.0 found (state refused.1).seen

-- A device in this state was opened, and this content was found, which a good sync fixes.
pub record IsOpening {D : Type 0} (before : State) (state : D → State) (result : Result (KeeperState D) (KeeperFault × D)) (found : List ℕ) : Type 0 where
  pub fixed : MayLeave before found
  pub outcome : IsOutcome state result found
  -- what a crash may leave meanwhile, and after a refusal, and which headers
  pub crash : IsFixedOrNot before state result found
  pub headers : AreHeadersInTurn before state result found crash
