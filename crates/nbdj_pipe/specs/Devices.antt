-- what `format` and `recover` make of a device
use Rattle.std.specs.Prelude.{ℕ, ◌≡◌, ◌↔◌, ◌⊎◌, List, Result, Ok, Err, IfErr, IfOk, OnOk}
use Rattle.checkpoint.specs.Format.{IsFormatted, LeavesFormat}
use Rattle.checkpoint.specs.Keeper.{faults_by}
use Rattle.checkpoint.specs.Opening.{IsAtRest, IsOpening, IsPassing, disk_after, faults_after_opening}
use Rattle.checkpoint.specs.Recovery.{IsRecovered}
use Rattle.checkpoint.specs.Upgrade.{IsOpenedAndUpgraded, IsUpgradePassing}
use Rattle.checkpoint.specs.declared.fault.KeeperFault.{KeeperFault}
use Rattle.checkpoint.specs.declared.fault.KeeperFault.TheVariants as fault
use Rattle.device_image.specs.Keeper.{KeeperState}
use Rattle.device_image.specs.Keeps.{Keeps}
use Rattle.device_image.specs.Stands.{StandsFor}
use Rattle.disk_model.specs.Disk.{State, IsAllSynced, LeavesOnly}
use Rattle.image_model.specs.Image.{Image}
use Rattle.image_model.specs.declared.geometry.Geometry.{Geometry}
use Rattle.image_model.specs.declared.layout.Layout.TheVariants.{Two}
use Rattle.front_end.specs.Refusals.{of_keeper}
use Rattle.front_end.specs.declared.refusal.Refusal.{Refusal}
use Rattle.front_end.specs.declared.refusal.Refusal.TheVariants.{StreamFault}

-- what a call that succeeded is told by: that it is done, or that its line couldn't be printed
abbrev pub IsPrinted : Result (Unit {0}) Refusal → Type 0
IsPrinted outcome = (outcome ≡ Ok tt) ⊎ (outcome ≡ Err StreamFault)

-- what a format came to is told
abbrev pub IsFormatTold : Result (Unit {0}) KeeperFault → Result (Unit {0}) Refusal → Type 0
IsFormatTold (Ok done) outcome = IsPrinted outcome
IsFormatTold (Err fault) outcome = outcome ≡ Err (of_keeper fault)

-- what an opening came to is told
abbrev pub IsOpeningTold : {D : Type 0} → Result (KeeperState D) (KeeperFault × D) → Result (Unit {0}) Refusal → Type 0
IsOpeningTold (Ok keeper) outcome = IsPrinted outcome
IsOpeningTold (Err refused) outcome = outcome ≡ Err (of_keeper refused.0)

-- A device was formatted: this is what that came to, what it made of the device, and what was told of it. A device fault is one
-- that the device counted, want of memory leaves it as it was, and on an honest one the rest is as docs/ASSURANCE.md says of a
-- format.
pub record IsFormatCarriedOut {D : Type 0} (state : D → State) (faults extent : D → ℕ) (honest : D → Type 0) (disk left : D) (geometry : Geometry) (outcome : Result (Unit {0}) Refusal) : Type 0 where
  pub given : Result (Unit {0}) KeeperFault
  pub told : IsFormatTold given outcome
  pub size : extent left ≡ extent disk
  pub trusted : honest left ↔ honest disk
  pub works : OnOk given (faults left ≡ faults disk)
  pub counted : IfErr given (λ refusal. faults left ≡ faults_by refusal (faults disk))
  pub only : IfErr given (λ refusal. (refusal ≡ fault.NoMemory) ⊎ (refusal ≡ fault.DeviceFault))
  pub unchanged : IfErr given (λ refusal. (refusal ≡ fault.DeviceFault) ⊎ (left ≡ disk))
  pub synced : honest disk → OnOk given (IsAllSynced (state left))
  pub formatted : honest disk → OnOk given (IsFormatted (state left).seen geometry)
  pub any_moment : honest disk → LeavesOnly (state disk) (state left) (LeavesFormat (state disk) geometry)

-- A device was opened, which recovered it: this is what that came to, what it made of the device, and what was told of it. All is
-- as it is of the keeper's opening.
pub record IsRecoveryCarriedOut {D : Type 0} (state : D → State) (faults extent : D → ℕ) (honest : D → Type 0) (disk left : D) (outcome : Result (Unit {0}) Refusal) : Type 0 where
  pub given : Result (KeeperState D) (KeeperFault × D)
  pub told : IsOpeningTold given outcome
  pub is_left : left ≡ disk_after given
  pub size : extent left ≡ extent disk
  pub trusted : honest left ↔ honest disk
  pub counted : faults left ≡ faults_after_opening given (faults disk)
  pub recovered : IfOk given IsRecovered
  pub found : honest disk → (content : List ℕ) × IsOpening (state disk) state given content
  pub same : honest disk → IsAllSynced (state disk) → (image : Image) (number : ℕ) → StandsFor (state disk).seen image number
      → IfOk given (λ keeper. Keeps keeper (state left) image number × (keeper.base ≡ number))
  pub passing : honest disk → IsAllSynced (state disk) → (image : Image) (number : ℕ) → StandsFor (state disk).seen image number → IfErr given (λ refused. IsPassing refused.0)
  pub any_moment : honest disk → IsAllSynced (state disk) → (image : Image) (number : ℕ) → StandsFor (state disk).seen image number
      → LeavesOnly (state disk) (state left) (λ content. StandsFor content image number)
  pub at_rest : honest disk → IsAllSynced (state disk) → IsAtRest (state disk).seen → LeavesOnly (state disk) (state left) (λ content. content ≡ (state disk).seen)

-- A device was opened and made one of layout 2: this is what that came to, what it made of the device, and what was told of it. All
-- is as it is of the keeper's upgrade.
pub record IsUpgradeCarriedOut {D : Type 0} (state : D → State) (faults extent : D → ℕ) (honest : D → Type 0) (disk left : D) (outcome : Result (Unit {0}) Refusal) : Type 0 where
  pub given : Result (KeeperState D) (KeeperFault × D)
  pub told : IsOpeningTold given outcome
  pub is_left : left ≡ disk_after given
  pub size : extent left ≡ extent disk
  pub trusted : honest left ↔ honest disk
  pub counted : faults left ≡ faults_after_opening given (faults disk)
  pub recovered : IfOk given IsRecovered
  pub layout : IfOk given (λ keeper. keeper.geometry.layout ≡ Two)
  pub steps : IsOpenedAndUpgraded state faults honest disk given
  pub same : honest disk → IsAllSynced (state disk) → (image : Image) (number : ℕ) → StandsFor (state disk).seen image number
      → IfOk given (λ keeper. Keeps keeper (state left) image number × (keeper.base ≡ number))
  pub passing : honest disk → IsAllSynced (state disk) → (image : Image) (number : ℕ) → StandsFor (state disk).seen image number → IfErr given (λ refused. IsUpgradePassing refused.0)
  pub any_moment : honest disk → IsAllSynced (state disk) → (image : Image) (number : ℕ) → StandsFor (state disk).seen image number
      → LeavesOnly (state disk) (state left) (λ content. StandsFor content image number)
