-- what an upgrade to layout 2 finds, and what it refuses
use Rattle.std.specs.Prelude.{ℕ, ◌≡◌, ◌≢◌, ◌≤◌, ◌<◌, ◌⊎◌, List, length, Result, Ok, Err, IfOk, MatchResult}
use Rattle.disk_model.specs.Disk.{State, IsAllSynced, LeavesOnly, MayLeave}
use Rattle.header_slots.specs.Change.{IsUpgraded}
use Rattle.header_slots.specs.Slots.{HoldsBad, HoldsHeader, HoldsNone}
use Rattle.header_slots.specs.declared.header.Header.{Header}
use Rattle.image_model.specs.Image.{Image}
use Rattle.image_model.specs.Side.{other_of}
use Rattle.image_model.specs.declared.layout.Layout.TheVariants.{One, Two}
use Rattle.image_model.specs.declared.side.Side.{Side}
use Rattle.device_image.specs.Damage.{HasBadMap, HasDamagedGroup}
use Rattle.device_image.specs.Keeper.{KeeperState}
use Rattle.device_image.specs.Keeps.{Keeps}
use Rattle.device_image.specs.Stands.{StandsFor}
use Rattle.checkpoint.specs.Headers.{HasHeader}
use Rattle.checkpoint.specs.Opening.{HasLastGeneration, IsAtRest, IsFixedOrNot, IsOpening, StandsAs, disk_after, faults_after_opening}
use Rattle.checkpoint.specs.Recovery.{IsRecovered}
use Rattle.checkpoint.specs.declared.fault.KeeperFault.{KeeperFault}
use Rattle.checkpoint.specs.declared.fault.KeeperFault.TheVariants.{NoMemory, DeviceFault, BadMap, NoHeader, BadHeader, NumbersFull, AreaFull, OutOfOrder, DamagedGroup, NotNow, Failed, AreaSmall}

-- The header in force says layout 1, and layout 2 would have areas below their limit.
pub record HasSmallAreas (content : List ℕ) : Type 0 where
  pub header : Header
  pub slot : Side
  pub in_force : HoldsHeader content (length content) header slot
  pub layout : header.geometry.layout ≡ One
  pub small : header.geometry.area < 4194304

-- The header in force says layout 1, and layout 2 would have areas that are large enough.
pub record HasLargeAreas (content : List ℕ) : Type 0 where
  pub header : Header
  pub slot : Side
  pub in_force : HoldsHeader content (length content) header slot
  pub layout : header.geometry.layout ≡ One
  pub large : 4194304 ≤ header.geometry.area

-- What a refusal of an upgrade says of the content that was found, and of what is read after it. If the numbers are full
-- or the areas too small it stands for the same: the first of them comes where the recovery wants another header, or all is
-- recovered and layout 2 does; the second where all is recovered.
abbrev pub IsUpgradeRefused : KeeperFault → List ℕ → List ℕ → Type 0
IsUpgradeRefused NoMemory found after = Unit {0}
IsUpgradeRefused DeviceFault found after = Unit {0}
IsUpgradeRefused BadMap found after = HasBadMap found
IsUpgradeRefused NoHeader found after = HoldsNone found (length found)
IsUpgradeRefused BadHeader found after = HoldsBad found (length found)
IsUpgradeRefused NumbersFull found after = StandsAs found after × HasLastGeneration after × (IsAtRest after → HasLargeAreas after)
IsUpgradeRefused AreaFull found after = ⊥
IsUpgradeRefused OutOfOrder found after = ⊥
IsUpgradeRefused DamagedGroup found after = HasDamagedGroup found
IsUpgradeRefused NotNow found after = ⊥
IsUpgradeRefused Failed found after = ⊥
IsUpgradeRefused AreaSmall found after = StandsAs found after × IsAtRest after × HasSmallAreas after

-- what an outcome says of the content that was found
abbrev pub IsUpgradeOutcome : {D : Type 0} → (D → State) → Result (KeeperState D) (KeeperFault × D) → List ℕ → Type 0
IsUpgradeOutcome state (Ok keeper) found = (image : Image) × StandsFor found image keeper.count × Keeps keeper (state keeper.disk) image keeper.count × (keeper.base ≡ keeper.count)
IsUpgradeOutcome state (Err refused) found = IsUpgradeRefused refused.0 found (state refused.1).seen

-- A device in this state was upgraded, and this content was found, which a good sync fixes.
pub record IsUpgrade {D : Type 0} (before : State) (state : D → State) (result : Result (KeeperState D) (KeeperFault × D)) (found : List ℕ) : Type 0 where
  pub fixed : MayLeave before found
  pub outcome : IsUpgradeOutcome state result found
  -- what a crash may leave meanwhile, and after a refusal
  pub crash : IsFixedOrNot before state result found

-- What a keeper is once its header says layout 2: one change of the header, into the other slot, and no more.
pub record IsChanged {D : Type 0} (opened keeper : KeeperState D) : Type 0 where
  pub layout : keeper.geometry.layout ≡ Two
  pub blocks : keeper.geometry.blocks ≡ opened.geometry.blocks
  pub area : keeper.geometry.area ≡ opened.geometry.area
  pub header : IsUpgraded opened.memory.header keeper.geometry keeper.memory.header
  pub slot : keeper.memory.slot ≡ other_of opened.memory.slot
  pub map : keeper.memory.map ≡ opened.memory.map
  pub count : keeper.count ≡ opened.count

-- The header in force is the one that an upgrade writes over this one: layout 2 in the same sizes, and the next generation.
pub record HasUpgradedHeader (header : Header) (content : List ℕ) : Type 0 where
  pub next : Header
  pub slot : Side
  pub in_force : HoldsHeader content (length content) next slot
  pub layout : next.geometry.layout ≡ Two
  pub blocks : next.geometry.blocks ≡ header.geometry.blocks
  pub area : next.geometry.area ≡ header.geometry.area
  pub is : IsUpgraded header next.geometry next

-- the header of the opening is in force, or the one that an upgrade writes over it
abbrev pub HasEitherLayout : {D : Type 0} → KeeperState D → List ℕ → Type 0
HasEitherLayout opened content = HasHeader opened.geometry opened.generation content ⊎ HasUpgradedHeader opened.memory.header content

-- What an upgrade makes of what its opening came to: a refusal is handed on, and a device of layout 2 stays as it is. In layout
-- 1 areas that would be too small refuse it, then a last generation does, and both leave what the opening left; else the header
-- is changed, unless the device fails.
abbrev pub IsUpgradeOf : {D : Type 0} → Result (KeeperState D) (KeeperFault × D) → Result (KeeperState D) (KeeperFault × D) → Type 0
IsUpgradeOf (Err refused) result = result ≡ Err refused
IsUpgradeOf (Ok opened) result =
    (opened.geometry.layout ≡ Two → result ≡ Ok opened)
    × (opened.geometry.layout ≡ One → opened.geometry.area < 4194304 → result ≡ Err (AreaSmall, opened.disk))
    × (opened.geometry.layout ≡ One → 4194304 ≤ opened.geometry.area → opened.generation ≡ 18446744073709551615 → result ≡ Err (NumbersFull, opened.disk))
    × (opened.geometry.layout ≡ One → 4194304 ≤ opened.geometry.area → opened.generation ≢ 18446744073709551615
    → MatchResult result (IsChanged opened) (λ refused. refused.0 ≡ DeviceFault))

-- A device was opened, as by an opening alone, and what that came to was upgraded.
pub record IsOpenedAndUpgraded {D : Type 0} (state : D → State) (faults : D → ℕ) (honest : D → Type 0) (disk : D) (result : Result (KeeperState D) (KeeperFault × D)) : Type 0 where
  pub opened : Result (KeeperState D) (KeeperFault × D)
  pub recovered : IfOk opened IsRecovered
  pub counted : faults (disk_after opened) ≡ faults_after_opening opened (faults disk)
  pub found : honest disk → (content : List ℕ) × IsOpening (state disk) state opened content × IsUpgrade (state disk) state result content
  pub at_rest : honest disk → IsAllSynced (state disk) → IsAtRest (state disk).seen → LeavesOnly (state disk) (state (disk_after opened)) (λ content. content ≡ (state disk).seen)
  pub changed : IsUpgradeOf opened result
  -- what a crash leaves once it is opened
  pub headers : honest disk → IfOk opened (λ keeper. LeavesOnly (state keeper.disk) (state (disk_after result)) (HasEitherLayout keeper))

-- a refusal of an upgrade that comes of a content which stands for an image too
abbrev pub IsUpgradePassing : KeeperFault → Type 0
IsUpgradePassing NoMemory = Unit {0}
IsUpgradePassing DeviceFault = Unit {0}
IsUpgradePassing BadMap = ⊥
IsUpgradePassing NoHeader = ⊥
IsUpgradePassing BadHeader = ⊥
IsUpgradePassing NumbersFull = Unit {0}
IsUpgradePassing AreaFull = ⊥
IsUpgradePassing OutOfOrder = ⊥
IsUpgradePassing DamagedGroup = ⊥
IsUpgradePassing NotNow = ⊥
IsUpgradePassing Failed = ⊥
IsUpgradePassing AreaSmall = Unit {0}
