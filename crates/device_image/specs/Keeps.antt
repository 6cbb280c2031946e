-- that a keeper keeps an image
use Rattle.std.specs.Prelude.{ℕ, ◌≡◌, ◌+◌, ◌<◌, ◌≤◌, IsTrue, false, List, [], ◌∷◌, ◌++◌, slice_index, Option, Some, None}
use Rattle.disk_model.specs.Disk.{State, InRange, IsAllSynced, IsSteady, IsSyncedIn}
use Rattle.header_slots.specs.declared.header.Header.{Header}
use Rattle.image_model.specs.Side.{other_of}
use Rattle.image_model.specs.declared.command.Kind.{Kind}
use Rattle.image_model.specs.Image.{Image}
use Rattle.image_model.specs.declared.geometry.Geometry.{Geometry}
use Rattle.journal_format.specs.Area.{AreaState}
use Rattle.journal_format.specs.GroupList.{IsHeld, IsList, next_behind, sizes_of}
use Rattle.journal_format.specs.Spelling.{StoredGroup}
use Rattle.journal_format.specs.Touches.{last_touch, touched_by_groups}
use Rattle.journal_format.specs.declared.touch.Touch.TheVariants.{Put}
use Rattle.journal_format.specs.declared.touch.TouchedRange.{TouchedRange}
use Rattle.regions.specs.Layout.{area_at, area_size, block_at, map_at}
use Rattle.regions.specs.Map.{HoldsMap}
use Rattle.device_image.specs.Keeper.{AreStatesAfter, AreUncopied, KeeperState, PlanState, TellSame, count_puts, earlier_of, is_put, phase_of}
use Rattle.device_image.specs.Stands.{StandsFor, areas_before_last, last_area, next_number}

-- the area is this one of a device with these sizes
pub record IsPlaced (area : AreaState) (geometry : Geometry) (index : ℕ) : Type 0 where
  pub from : area.from ≡ area_at geometry index
  pub bytes : area.bytes ≡ area_size geometry
  pub blocks : area.blocks ≡ geometry.blocks

-- The area holds this list, and of what its commands touched the last touch of each block is known; nothing in it is unsynced.
pub record IsListed (area : AreaState) (first : ℕ) (groups : List StoredGroup) (state : State) : Type 0 where
  pub list : IsList area first groups state.seen
  pub next : area.next ≡ next_behind first groups
  pub touched : TellSame area.blocks area.touched (touched_by_groups area.from groups)
  pub synced : IsSyncedIn state area.from area.bytes

-- These areas hold these lists, the first with the number `next` on.
abbrev pub AreHeld : List ℕ → Geometry → ℕ → List (List StoredGroup) → List AreaState → State → Type 0
AreHeld [] geometry next [] [] state = Unit {0}
AreHeld [] geometry next [] (area ∷ areas) state = ⊥
AreHeld [] geometry next (groups ∷ lists) areas state = ⊥
AreHeld (index ∷ more) geometry next [] areas state = ⊥
AreHeld (index ∷ more) geometry next (groups ∷ lists) [] state = ⊥
AreHeld (index ∷ more) geometry next (groups ∷ lists) (area ∷ areas) state =
    IsPlaced area geometry index × IsListed area next groups state × AreHeld more geometry (next_behind next groups) lists areas state

-- the number that follows lists of groups, where the first of them has to begin with `next`
abbrev pub behind_lists : ℕ → List (List StoredGroup) → ℕ
behind_lists next [] = next
behind_lists next (groups ∷ lists) = behind_lists (next_behind next groups) lists

-- The areas in use hold these lists: those before the last, in the order of the ring, and the last.
pub record HoldsAreas (state : State) (header : Header) (lists : List (List StoredGroup)) (earlier : List AreaState) (area : AreaState) : Type 0 where
  pub front : List (List StoredGroup)
  pub groups : List StoredGroup
  pub are : lists ≡ front ++ groups ∷ []
  pub earlier_held : AreHeld (areas_before_last header) header.geometry (next_number header.base) front earlier state
  pub placed : IsPlaced area header.geometry (last_area header)
  pub held : IsHeld area (behind_lists (next_number header.base) front) groups state

-- what the first of several areas in use touched, by the lists before the last; nothing where one area is in use
abbrev pub touched_first : Header → List (List StoredGroup) → List TouchedRange
touched_first header [] = []
touched_first header (groups ∷ lists) = touched_by_groups (area_at header.geometry header.first_area) groups

-- the place is one of a block's data, where the last touch of that block in the first of several areas in use is a put
pub record IsCopyPlace (header : Header) (front : List (List StoredGroup)) (place : ℕ) : Type 0 where
  pub block : ℕ
  pub inside : InRange (block_at header.geometry block) 4096 place
  pub put : IsTrue (is_put (last_touch block (touched_first header front)))

-- The blocks before this one whose last touch in the first of several areas in use is a put read as that put's bytes.
abbrev pub AreCopied : List ℕ → Header → List (List StoredGroup) → ℕ → Type 0
AreCopied content header front copied = (block place : ℕ) → block < copied → last_touch block (touched_first header front) ≡ Some (Put place)
    → (k : ℕ) → k < 4096 → slice_index content (block_at header.geometry block + k) ≡ slice_index content (place + k)

-- Once the map after the first area is written: all is copied, it stands in the map slot that isn't in force, and nothing
-- is unsynced.
abbrev pub IsMapWritten : Option (List Kind) → State → Header → List Kind → List (List StoredGroup) → ℕ → Type 0
IsMapWritten None state header states front left = Unit {0}
IsMapWritten (Some after) state header states front left =
    (left ≡ 0) × AreStatesAfter (touched_first header front) states after
    × HoldsMap state.seen (map_at header.geometry (other_of header.map_slot)) header.geometry.blocks after × IsAllSynced state

-- A checkpoint is under way: what is copied of the first area is there, and this many blocks are left.
pub record IsCopying (plan : PlanState) (state : State) (header : Header) (states : List Kind) (front : List (List StoredGroup)) : Type 0 where
  pub within : plan.copied ≤ header.geometry.blocks
  pub counted : plan.left + count_puts plan.copied (touched_first header front) ≡ count_puts header.geometry.blocks (touched_first header front)
  pub are_copied : AreCopied state.seen header front plan.copied
  pub map_written : IsMapWritten plan.mapped state header states front plan.left

-- If several areas are in use, a checkpoint of the first is under way, and nothing of the areas after it is copied.
abbrev pub IsInPhase : List PlanState → State → Header → List Kind → List (List StoredGroup) → Type 0
IsInPhase [] state header states front = Unit {0}
IsInPhase (plan ∷ plans) state header states front = IsCopying plan state header states front × AreUncopied plans

-- The keeper, whose device is in this state, keeps this image with this last number: it works, the content stands for
-- them, and what it shows and remembers is what stands there. No place is loose. If one area is in use nothing is
-- unsynced, and where more are only data that a checkpoint writes again: blocks whose last touch in the first is a put.
pub record Keeps {D : Type 0} (keeper : KeeperState D) (state : State) (image : Image) (number : ℕ) : Type 0 where
  pub works : keeper.failed ≡ false
  pub steady : IsSteady state
  pub stands : StandsFor state.seen image number
  pub sizes : keeper.geometry ≡ stands.header.geometry
  pub generation : keeper.generation ≡ stands.header.generation
  pub from_base : keeper.base ≡ stands.header.base
  pub headed : keeper.memory.header ≡ stands.header
  pub slotted : keeper.memory.slot ≡ stands.slot
  pub counted : keeper.count ≡ number
  pub mapped : keeper.memory.map ≡ stands.states
  pub areas : HoldsAreas state stands.header stands.lists (earlier_of keeper.memory.plans) keeper.memory.area
  pub taken : keeper.used ≡ sizes_of areas.groups
  pub phase : keeper.phase ≡ phase_of keeper.memory.plans
  pub phased : IsInPhase keeper.memory.plans state stands.header stands.states areas.front
  pub unsynced : (place : ℕ) → state.unsynced place → IsCopyPlace stands.header areas.front place
