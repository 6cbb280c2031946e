-- Definitions for contracts between functions of this crate, next to those of `Opening`.
use Rattle.checkpoint.specs.declared.fault.KeeperFault.{KeeperFault}
use Rattle.checkpoint.specs.declared.fault.KeeperFault.TheVariants.{NoMemory, DeviceFault, BadMap, NoHeader, BadHeader, NumbersFull, AreaFull, OutOfOrder, DamagedGroup, NotNow, Failed, AreaSmall}
use Rattle.std.specs.Prelude.{ℕ, ◌≡◌, ◌⊎◌, List, length, Result}
use Rattle.header_slots.specs.Slots.{HoldsHeader}
use Rattle.header_slots.specs.declared.header.Header.{Header}
use Rattle.image_model.specs.declared.side.Side.{Side}
use Rattle.image_model.specs.declared.command.Kind.{Kind}
use Rattle.disk_model.specs.Disk.{State, IsAllSynced, LeavesOnly, MayLeave}
use Rattle.journal_format.specs.Area.{AreaState}
use Rattle.journal_format.specs.Spelling.{StoredGroup}
use Rattle.regions.specs.Layout.{map_at}
use Rattle.regions.specs.Map.{HoldsMap}
use Rattle.device_image.specs.Keeper.{AreUncopied, KeeperState, PlanState, earlier_of}
use Rattle.device_image.specs.Keeps.{HoldsAreas}
use Rattle.checkpoint.specs.Opening.{IsUnfixed, disk_after}

-- A device that is good was read: this is its header and the slot of it, its map, what is to be copied of each area in use
-- before the last, and the last one.
pub record IsOpened (state : State) (header : Header) (slot : Side) (states : List Kind) (plans : List PlanState) (area : AreaState) : Type 0 where
  pub lists : List (List StoredGroup)
  pub synced : IsAllSynced state
  pub in_force : HoldsHeader state.seen (length state.seen) header slot
  pub map : HoldsMap state.seen (map_at header.geometry header.map_slot) header.geometry.blocks states
  pub areas : HoldsAreas state header lists (earlier_of plans) area
  pub uncopied : AreUncopied plans

-- A sync was good, as `IsFixed` has it, and nothing was written after it.
pub record IsReadFixed {D : Type 0} (before : State) (state : D → State) (after : State) (found : List ℕ) : Type 0 where
  pub first : D
  pub synced : IsAllSynced (state first)
  pub seen : (state first).seen ≡ found
  pub until_then : LeavesOnly before (state first) (MayLeave before)
  pub from_then : LeavesOnly (state first) after (λ content. content ≡ found)

-- the same, or no sync was good
abbrev pub IsReadFixedOrNot : {D : Type 0} → State → (D → State) → Result (KeeperState D) (KeeperFault × D) → List ℕ → Type 0
IsReadFixedOrNot before state result found = IsReadFixed before state (state (disk_after result)) found ⊎ IsUnfixed before state result

-- what a refusal says that comes of reading groups
abbrev pub IsGroupsRefused : KeeperFault → Type 0 → Type 0
IsGroupsRefused NoMemory damaged = Unit {0}
IsGroupsRefused DeviceFault damaged = Unit {0}
IsGroupsRefused BadMap damaged = ⊥
IsGroupsRefused NoHeader damaged = ⊥
IsGroupsRefused BadHeader damaged = ⊥
IsGroupsRefused NumbersFull damaged = ⊥
IsGroupsRefused AreaFull damaged = ⊥
IsGroupsRefused OutOfOrder damaged = ⊥
IsGroupsRefused DamagedGroup damaged = damaged
IsGroupsRefused NotNow damaged = ⊥
IsGroupsRefused Failed damaged = ⊥
IsGroupsRefused AreaSmall damaged = ⊥
