-- what a call makes of a keeper
use Rattle.std.specs.Prelude.{ℕ, ◌≡◌, ◌+◌, ◌≤◌, true, length, List, [], ◌∷◌, Option, Some, None}
use Rattle.device_image.specs.Keeper.{KeeperState, Memory, PlanState}
use Rattle.disk_model.specs.Faults.{counted}
use Rattle.image_model.specs.Command.{bodies_of}
use Rattle.image_model.specs.declared.geometry.Geometry.{Geometry}
use Rattle.journal_format.specs.Area.{AreaState}
use Rattle.journal_format.specs.Group.{Numbered}
use Rattle.regions.specs.Layout.{area_size}
use Rattle.checkpoint.specs.declared.fault.KeeperFault.{KeeperFault}
use Rattle.checkpoint.specs.declared.fault.KeeperFault.TheVariants.{NoMemory, DeviceFault, BadMap, NoHeader, BadHeader, NumbersFull, AreaFull, OutOfOrder, DamagedGroup, NotNow, Failed, AreaSmall}

-- the area has the size of those of a device with these sizes, and lies in it
pub record IsSized (area : AreaState) (geometry : Geometry) (extent : ℕ) : Type 0 where
  pub bytes : area.bytes ≡ area_size geometry
  pub blocks : area.blocks ≡ geometry.blocks
  pub inside : area.from + area.bytes ≤ extent

-- and so do the areas of these checkpoints
abbrev pub AreSized : List PlanState → Geometry → ℕ → Type 0
AreSized [] geometry extent = Unit {0}
AreSized (plan ∷ plans) geometry extent = IsSized plan.first geometry extent × AreSized plans geometry extent

-- the checkpoint that is under way, and those after it
abbrev pub plans_of : Option PlanState → List PlanState → List PlanState
plans_of None waiting = []
plans_of (Some plan) waiting = plan ∷ waiting

-- the bytes of an area that are taken once the group is added and a gate stands after it
abbrev pub end_after : {D : Type 0} → KeeperState D → Numbered → ℕ
end_after keeper group = keeper.used + 18 + bodies_of group.commands

-- the keeper with the group added, its device as it then is, and what it then remembers
abbrev pub grown_by : {D : Type 0} → KeeperState D → Numbered → D → Memory → KeeperState D
grown_by keeper group disk memory = record keeper {
  disk = disk;
  count = keeper.count + length group.commands;
  used = keeper.used + 17 + bodies_of group.commands;
  memory = memory;
}

-- the keeper after a refusal, and its device as it then is: a device fault stops it, and any other leaves it as it was
abbrev pub refused_by : {D : Type 0} → KeeperFault → KeeperState D → D → KeeperState D
refused_by NoMemory keeper disk = keeper
refused_by DeviceFault keeper disk = record keeper { disk = disk; failed = true }
refused_by BadMap keeper disk = keeper
refused_by NoHeader keeper disk = keeper
refused_by BadHeader keeper disk = keeper
refused_by NumbersFull keeper disk = keeper
refused_by AreaFull keeper disk = keeper
refused_by OutOfOrder keeper disk = keeper
refused_by DamagedGroup keeper disk = keeper
refused_by NotNow keeper disk = keeper
refused_by Failed keeper disk = keeper
refused_by AreaSmall keeper disk = keeper

-- the number of faults of the device after a refusal: only a device fault is counted
abbrev pub faults_by : KeeperFault → ℕ → ℕ
faults_by NoMemory faults = faults
faults_by DeviceFault faults = counted faults
faults_by BadMap faults = faults
faults_by NoHeader faults = faults
faults_by BadHeader faults = faults
faults_by NumbersFull faults = faults
faults_by AreaFull faults = faults
faults_by OutOfOrder faults = faults
faults_by DamagedGroup faults = faults
faults_by NotNow faults = faults
faults_by Failed faults = faults
faults_by AreaSmall faults = faults

-- the refusals that adding a group may give
abbrev pub IsAppendFault : KeeperFault → Type 0
IsAppendFault NoMemory = Unit {0}
IsAppendFault DeviceFault = Unit {0}
IsAppendFault BadMap = ⊥
IsAppendFault NoHeader = ⊥
IsAppendFault BadHeader = ⊥
IsAppendFault NumbersFull = ⊥
IsAppendFault AreaFull = Unit {0}
IsAppendFault OutOfOrder = Unit {0}
IsAppendFault DamagedGroup = ⊥
IsAppendFault NotNow = ⊥
IsAppendFault Failed = Unit {0}
IsAppendFault AreaSmall = ⊥
