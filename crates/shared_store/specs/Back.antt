-- The outcome for a group that wasn't stored, and the keeper after it.
use Rattle.std.specs.Prelude.{ℕ, ◌≡◌, ◌≢◌, ◌+◌, ◌⊎◌, true, false}
use Rattle.checkpoint.specs.Keeper.{refused_by}
use Rattle.checkpoint.specs.declared.fault.KeeperFault.TheVariants as fault
use Rattle.device_image.specs.Keeper.{KeeperState}
use Rattle.disk_model.specs.Faults.{counted}
use Rattle.shared_store.specs.Parts.{SealedState}
use Rattle.shared_store.specs.declared.keeper.Unstored.{Unstored}
use Rattle.shared_store.specs.declared.keeper.Unstored.TheVariants.{AreaFull, Failed, NoMemory}

-- it has no room in the area
abbrev pub IsFull : {B : Type 0} → Unstored B → Type 0
IsFull (NoMemory back) = ⊥
IsFull (AreaFull back) = Unit {0}
IsFull Failed = ⊥

-- Why it is discarded: a call of the device fails now, which is counted, or has failed before, or the group isn't the next one.
abbrev pub IsDiscarded : {D : Type 0} → (D → ℕ) → SealedState → KeeperState D → KeeperState D → Type 0
IsDiscarded faults sealed old new =
    ((old.failed ≡ false) × (new ≡ refused_by fault.DeviceFault old new.disk) × (faults new.disk ≡ counted (faults old.disk)))
    ⊎ ((old.failed ≡ true) × (new ≡ old))
    ⊎ ((sealed.group.first ≢ old.count + 1) × (new ≡ old))

-- The group comes back, and the keeper is as it was; or it is discarded.
abbrev pub IsBack : {B D : Type 0} → (D → ℕ) → SealedState → KeeperState D → KeeperState D → Unstored B → Type 0
IsBack faults sealed old new (NoMemory back) = (back ≡ sealed) × (new ≡ old)
IsBack faults sealed old new (AreaFull back) = (back ≡ sealed) × (new ≡ old)
IsBack faults sealed old new Failed = IsDiscarded faults sealed old new
