-- the steps of a checkpoint: their times, and what they make of a keeper
use Rattle.std.specs.Prelude.{ℕ, ◌≡◌, ◌-◌, ◌+◌, ◌<◌, List, [], ◌∷◌, ◌++◌, length}
use Rattle.regions.specs.Layout.{areas_in}
use Rattle.device_image.specs.Keeper.{KeeperState, Memory, Phase, One, Copying, Mapped, count_puts}
use Rattle.checkpoint.specs.declared.fault.KeeperFault.{KeeperFault}
use Rattle.checkpoint.specs.declared.fault.KeeperFault.TheVariants.{NoMemory, DeviceFault, BadMap, NoHeader, BadHeader, NumbersFull, AreaFull, OutOfOrder, DamagedGroup, NotNow, Failed, AreaSmall}

-- an area isn't in use, and the list of the last one that is isn't empty
abbrev pub IsRotateTime : {D : Type 0} → KeeperState D → Type 0
IsRotateTime keeper = (length keeper.turned + 1 < areas_in keeper.geometry) × (0 < keeper.used)

-- a block is left to copy
abbrev pub IsCopyTime : Phase → Type 0
IsCopyTime One = ⊥
IsCopyTime (Copying left) = 0 < left
IsCopyTime Mapped = ⊥

-- none is left, and the map isn't written
abbrev pub IsMapTime : Phase → Type 0
IsMapTime One = ⊥
IsMapTime (Copying left) = left ≡ 0
IsMapTime Mapped = ⊥

-- the map is written
abbrev pub IsFinishTime : Phase → Type 0
IsFinishTime One = ⊥
IsFinishTime (Copying left) = ⊥
IsFinishTime Mapped = Unit {0}

-- how many blocks are left to copy
abbrev pub left_in : Phase → ℕ
left_in One = 0
left_in (Copying left) = left
left_in Mapped = 0

-- the phase once another area is in use, where the last one leaves this many blocks to copy
abbrev pub phase_with : Phase → ℕ → Phase
phase_with One left = Copying left
phase_with (Copying more) left = Copying more
phase_with Mapped left = Mapped

-- the keeper, its device as it then is and what it then remembers, once another area is in use; this many blocks are to be
-- copied
abbrev pub rotated_by : {D : Type 0} → KeeperState D → D → Memory → KeeperState D
rotated_by keeper disk memory = record keeper {
  disk = disk;
  generation = keeper.generation + 1;
  used = 0;
  turned = keeper.turned ++ keeper.count ∷ [];
  lefts = keeper.lefts ++ count_puts keeper.geometry.blocks keeper.memory.area.touched ∷ [];
  phase = phase_with keeper.phase (count_puts keeper.geometry.blocks keeper.memory.area.touched);
  memory = memory;
}

-- these numbers with so much less in the first
abbrev pub fewer : ℕ → List ℕ → List ℕ
fewer blocks [] = []
fewer blocks (left ∷ lefts) = (left - blocks) ∷ lefts

-- all but the first of them
abbrev pub behind_first : List ℕ → List ℕ
behind_first [] = []
behind_first (first ∷ rest) = rest

-- the first of them, or the base where there is none
abbrev pub first_turned : ℕ → List ℕ → ℕ
first_turned base [] = base
first_turned base (first ∷ rest) = first

-- the phase where this many blocks are left to copy of each area before the last, and no map is written
abbrev pub phase_left : List ℕ → Phase
phase_left [] = One
phase_left (left ∷ lefts) = Copying left

-- once this many blocks more are copied
abbrev pub copied_by : {D : Type 0} → KeeperState D → ℕ → D → Memory → KeeperState D
copied_by keeper blocks disk memory = record keeper { disk = disk; lefts = fewer blocks keeper.lefts; phase = Copying (left_in keeper.phase - blocks); memory = memory }

-- once the map is written
abbrev pub mapped_by : {D : Type 0} → KeeperState D → D → Memory → KeeperState D
mapped_by keeper disk memory = record keeper { disk = disk; phase = Mapped; memory = memory }

-- once the first area is no longer in use, and map and data hold what it did
abbrev pub finished_by : {D : Type 0} → KeeperState D → D → Memory → KeeperState D
finished_by keeper disk memory = record keeper {
  disk = disk;
  generation = keeper.generation + 1;
  base = first_turned keeper.base keeper.turned;
  turned = behind_first keeper.turned;
  lefts = behind_first keeper.lefts;
  phase = phase_left (behind_first keeper.lefts);
  memory = memory;
}

-- the refusals of a step
abbrev pub IsStepFault : KeeperFault → Type 0
IsStepFault NoMemory = Unit {0}
IsStepFault DeviceFault = Unit {0}
IsStepFault BadMap = ⊥
IsStepFault NoHeader = ⊥
IsStepFault BadHeader = ⊥
IsStepFault NumbersFull = Unit {0}
IsStepFault AreaFull = ⊥
IsStepFault OutOfOrder = ⊥
IsStepFault DamagedGroup = ⊥
IsStepFault NotNow = Unit {0}
IsStepFault Failed = Unit {0}
IsStepFault AreaSmall = ⊥
