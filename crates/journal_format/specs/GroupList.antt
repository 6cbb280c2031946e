-- The list of groups that the bytes of an area hold, by docs/FORMATS.md, "Group". A place is a byte of the device.
use Rattle.std.specs.Prelude.{ℕ, ◌≡◌, ◌+◌, ◌%◌, ◌≤◌, ◌<◌, ◌⊎◌, List, [], ◌∷◌, ◌++◌, length, slice_index, sum_by, ⊤}
use Rattle.disk_model.specs.Disk.{State, InRange, IsAllSynced, IsSyncedIn, MayLeaveTorn}
use Rattle.std.specs.List.{flat_map}
use Rattle.image_model.specs.Change.{Change, AreChanges}
use Rattle.journal_format.specs.Area.{AreaState}
use Rattle.journal_format.specs.Spelling.{StoredGroup, body_of_group, group_bytes}
use Rattle.journal_format.specs.Touches.{touched_by_groups}

-- from the place on the content has these bytes
abbrev pub StandsAt : List ℕ → ℕ → List ℕ → Type 0
StandsAt content place bytes = (k : ℕ) → k < length bytes → slice_index content (place + k) ≡ slice_index bytes k

-- the gate at the place is open: every other byte is a closed one
abbrev pub IsOpen : List ℕ → ℕ → Type 0
IsOpen content place = slice_index content place ≡ 1

-- the bytes of a group with its gate
abbrev pub size_of : StoredGroup → ℕ
size_of group = 17 + length (body_of_group group)

abbrev pub sizes_of : List StoredGroup → ℕ
sizes_of groups = sum_by size_of groups

-- the changes of groups, one after another
abbrev pub changes_of : List StoredGroup → List Change
changes_of groups = flat_map (λ group. group.changes) groups

-- the number that follows a group's last; 0 where no number is left
abbrev pub number_behind : StoredGroup → ℕ
number_behind group = (group.first + length group.changes) % 18446744073709551616

-- the number that follows groups, where the first of them has to begin with `next`
abbrev pub next_behind : ℕ → List StoredGroup → ℕ
next_behind next [] = next
next_behind next (group ∷ groups) = next_behind (number_behind group) groups

-- a group that may be the next in a journal of an image of this many blocks: at least one command, a body of at most
-- 8,388,608 bytes, and its numbers begin with `next` and have 64 bits
pub record IsNextGroup (image next : ℕ) (group : StoredGroup) : Type 0 where
  pub some : 1 ≤ length group.changes
  pub body : length (body_of_group group) ≤ 8388608
  pub left : 1 ≤ next
  pub first : group.first ≡ next
  pub numbers : next + length group.changes ≤ 18446744073709551616
  pub changes : AreChanges image group.changes

-- from the place on stand these groups, each after an open gate, and then a gate that isn't open
abbrev pub Stand : ℕ → List ℕ → ℕ → ℕ → List StoredGroup → Type 0
Stand image content place next [] = IsOpen content place → ⊥
Stand image content place next (group ∷ groups) =
    IsOpen content place × StandsAt content (place + 1) (group_bytes group) × IsNextGroup image next group
    × Stand image content (place + size_of group) (number_behind group) groups

-- from the place on stand these groups, each after an open gate, whatever follows them
abbrev pub Lead : ℕ → List ℕ → ℕ → ℕ → List StoredGroup → Type 0
Lead image content place next [] = ⊤
Lead image content place next (group ∷ groups) =
    IsOpen content place × StandsAt content (place + 1) (group_bytes group) × IsNextGroup image next group
    × Lead image content (place + size_of group) (number_behind group) groups

-- the area holds this list, whose first group has to begin with `first`
pub record IsList (area : AreaState) (first : ℕ) (groups : List StoredGroup) (content : List ℕ) : Type 0 where
  pub stand : Stand area.blocks content area.from first groups
  pub inside : sizes_of groups < area.bytes

-- the area is damaged: some groups stand in it, and then an open gate with no group after it that may be the next and
-- leaves room for a gate
pub record IsDamaged (area : AreaState) (first : ℕ) (content : List ℕ) : Type 0 where
  pub groups : List StoredGroup
  pub lead : Lead area.blocks content area.from first groups
  pub inside : sizes_of groups < area.bytes
  pub is_open : IsOpen content (area.from + sizes_of groups)
  pub none : (group : StoredGroup) → IsNextGroup area.blocks (next_behind first groups) group
      → StandsAt content (area.from + sizes_of groups + 1) (group_bytes group) → sizes_of groups + size_of group < area.bytes → ⊥

-- the area is where its list ends and knows what its commands touched, and nothing in it is unsynced
pub record IsHeld (area : AreaState) (first : ℕ) (groups : List StoredGroup) (state : State) : Type 0 where
  pub list : IsList area first groups state.seen
  pub gate : area.gate ≡ sizes_of groups
  pub next : area.next ≡ next_behind first groups
  pub touched : area.touched ≡ touched_by_groups area.from groups
  pub synced : IsSyncedIn state area.from area.bytes

-- the area is where the list ends that it holds, whose first group has to begin with `first`
pub record HoldsList (area : AreaState) (first : ℕ) (state : State) : Type 0 where
  pub groups : List StoredGroup
  pub held : IsHeld area first groups state

-- after the area's list was stored: the area holds it, outside the area what was stable stays and a read gives what it
-- gave, and nothing on the device is unsynced
pub record IsListStored (area : AreaState) (first : ℕ) (groups : List StoredGroup) (before after : State) : Type 0 where
  pub held : IsHeld area first groups after
  pub others : MayLeaveTorn before area.from area.bytes after.seen
  pub same : (place : ℕ) → (InRange area.from area.bytes place → ⊥) → (before.loose place → ⊥) → slice_index after.seen place ≡ slice_index before.seen place
  pub synced : IsAllSynced after

-- what a crash may leave while a group is added: the list without the group or with the whole of it, and what was
-- stable outside the area
pub record LeavesEither (area : AreaState) (first : ℕ) (groups : List StoredGroup) (group : StoredGroup) (state : State) (content : List ℕ) : Type 0 where
  pub others : MayLeaveTorn state area.from area.bytes content
  pub list : IsList area first groups content ⊎ IsList area first (groups ++ group ∷ []) content
