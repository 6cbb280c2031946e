-- Definitions for contracts between functions of this crate, next to those of `Scanning`.
use Rattle.std.specs.Prelude.{ℕ, ◌≡◌, ◌+◌, ◌*◌, ◌≤◌, ◌⊎◌, Option, Some, None, List, ◌++◌, ◌||◌, length, if◌then◌else◌, ◌==◌, ◌<◌, slice_index}
use Rattle.std.specs.List.{flat_map}
use Rattle.image_model.specs.declared.command.Edges.{Edges}
use Rattle.image_model.specs.declared.command.Edges.TheVariants.{Head, Tail, Both}
use Rattle.image_model.specs.Change.{Change, IsChange, AreChanges, edge_count, least_blocks}
use Rattle.image_model.specs.declared.command.Kind.TheVariants.{Zero, Hole}
use Rattle.journal_format.specs.declared.touch.Touch.{Touch}
use Rattle.journal_format.specs.declared.touch.Touch.TheVariants.{Put, Clear}
use Rattle.journal_format.specs.declared.touch.TouchedRange.{TouchedRange}
use Rattle.journal_format.specs.GroupList.{StandsAt, IsOpen, size_of, number_behind, IsNextGroup}
use Rattle.journal_format.specs.Spelling.{StoredGroup, change_bytes, group_bytes}
use Rattle.journal_format.specs.Touches.{touched_by, touched_by_changes}
use Rattle.disk_model.specs.Disk.{State}
use Rattle.journal_format.specs.Scanning.{IsScanned, WindowState}

-- the area is what is scanned, and the window holds a part of it
pub record IsReadAs (content : List ℕ) (state : State) (area bytes : ℕ) (window : WindowState) : Type 0 where
  pub scanned : IsScanned content state area bytes
  pub held : (k : ℕ) → k < window.held → slice_index window.buffer k ≡ slice_index content (area + window.from + k)

-- the kind of a head with edges
abbrev pub IsEdgedKind : ℕ → Type 0
IsEdgedKind kind = (kind ≡ 4) ⊎ (kind ≡ 5)

-- the edges that the byte after such a head says
abbrev pub edges_said : ℕ → Option Edges
edges_said byte = if byte == 1 then Some Head else (if byte == 2 then Some Tail else (if byte == 3 then Some Both else None))

-- the heads of a put, of a clear, and of one with these edges, with this many bytes after them
abbrev pub IsPutHead : ℕ → ℕ → ℕ → Type 0
IsPutHead kind blocks bytes = (kind ≡ 1) × (1 ≤ blocks) × (blocks ≤ 257) × (bytes ≡ 4096 * blocks)

abbrev pub IsClearHead : ℕ → ℕ → ℕ → Type 0
IsClearHead kind blocks bytes = ((kind ≡ 2) ⊎ ((kind ≡ 3) × (1 ≤ blocks))) × (bytes ≡ 0)

abbrev pub IsEdgedHead : ℕ → ℕ → Option Edges → ℕ → Type 0
IsEdgedHead kind blocks edges bytes =
    IsEdgedKind kind × ((own : Edges) × (edges ≡ Some own) × (least_blocks own ≤ blocks) × (bytes ≡ 1 + 4096 * edge_count own))

-- the head of a change of an image of this many blocks, with this many bytes after it, which say these edges where there are
-- some
pub record IsHead (image kind first blocks : ℕ) (edges : Option Edges) (bytes : ℕ) : Type 0 where
  pub inside : first + blocks ≤ image
  pub kinds : IsPutHead kind blocks bytes ⊎ (IsClearHead kind blocks bytes ⊎ IsEdgedHead kind blocks edges bytes)

-- what the command with this kind of head makes of its blocks, whose data stand from this place of the device on
abbrev pub touch_of_head : ℕ → ℕ → Touch
touch_of_head kind place = if kind == 1 then Put place else (if kind == 2 || kind == 4 then Clear Hole else Clear Zero)

-- a change stands at the place and ends where the next one may begin
pub record FoundChange (image : ℕ) (content : List ℕ) (place end : ℕ) (ranges : List TouchedRange) : Type 0 where
  pub change : Change
  pub is : IsChange image change
  pub bytes : StandsAt content place (change_bytes change)
  pub end_is : place + length (change_bytes change) ≡ end
  pub ranges_are : ranges ≡ touched_by place change

-- no change stands at the place that ends at `end` at the latest
abbrev pub HasNoChange : ℕ → List ℕ → ℕ → ℕ → Type 0
HasNoChange image content place end =
    (change : Change) → IsChange image change → StandsAt content place (change_bytes change) → place + length (change_bytes change) ≤ end → ⊥

-- these changes stand one after another from the place up to the end
pub record StandBetween (image : ℕ) (content : List ℕ) (place end : ℕ) (changes : List Change) : Type 0 where
  pub are : AreChanges image changes
  pub bytes : StandsAt content place (flat_map change_bytes changes)
  pub end_is : place + length (flat_map change_bytes changes) ≡ end

-- this many changes stand from the place up to the end, and what they touch was noted
pub record FoundChanges (image : ℕ) (content : List ℕ) (place end count : ℕ) (old new : List TouchedRange) : Type 0 where
  pub changes : List Change
  pub between : StandBetween image content place end changes
  pub count_is : length changes ≡ count
  pub noted : new ≡ old ++ touched_by_changes place changes

-- fewer changes than this many stand from the place up to the end
abbrev pub HasNoChanges : ℕ → List ℕ → ℕ → ℕ → ℕ → Type 0
HasNoChanges image content place end count = (changes : List Change) → StandBetween image content place end changes → length changes ≡ count → ⊥

-- what the head of the next group has to meet
pub record IsNextHead (next body first count : ℕ) : Type 0 where
  pub body_fits : body ≤ 8388608
  pub some : 1 ≤ count
  pub left : 1 ≤ next
  pub first_is : first ≡ next
  pub numbers : next + count ≤ 18446744073709551616

-- the next group stands after the open gate, and what it touches was noted
pub record FoundGroup (image : ℕ) (content : List ℕ) (gate next gate_behind number : ℕ) (old new : List TouchedRange) : Type 0 where
  pub group : StoredGroup
  pub is_open : IsOpen content gate
  pub bytes : StandsAt content (gate + 1) (group_bytes group)
  pub is_next : IsNextGroup image next group
  pub gate_is : gate + size_of group ≡ gate_behind
  pub number_is : number_behind group ≡ number
  pub noted : new ≡ old ++ touched_by_changes (gate + 17) group.changes
