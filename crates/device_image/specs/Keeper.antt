-- keepers as callers see them
use Rattle.std.specs.Prelude.{ℕ, zero, suc, ◌≡◌, ◌+◌, ◌%◌, ◌<◌, length, Bool, true, false, if◌then◌else◌, List, [], ◌∷◌, Option, Some, None}
use Rattle.header_slots.specs.declared.header.Header.{Header}
use Rattle.image_model.specs.declared.command.Kind.{Kind}
use Rattle.image_model.specs.declared.side.Side.{Side}
use Rattle.image_model.specs.declared.geometry.Geometry.{Geometry}
use Rattle.journal_format.specs.Area.{AreaState}
use Rattle.alloc_map.specs.Codes.{state_at}
use Rattle.journal_format.specs.Touches.{kind_after, last_touch}
use Rattle.journal_format.specs.declared.touch.Touch.{Touch}
use Rattle.journal_format.specs.declared.touch.Touch.TheVariants.{Put, Clear}
use Rattle.journal_format.specs.declared.touch.TouchedRange.{TouchedRange}

-- where the checkpoint is
pub data Phase : Type 0 where
  -- one area is in use
  One : Phase
  -- more are in use, and this many blocks are left to copy out of the first into data
  Copying : (left : ℕ) → Phase
  -- all are copied, and the map after the first area is written
  Mapped : Phase

-- A checkpoint of an area that stands before the last: what it remembers of that area, before which block all is copied that
-- is to be copied, how many blocks are left to copy, and, once it is written, the map after that area.
pub record PlanState : Type 0 where
  pub first : AreaState
  pub copied : ℕ
  pub left : ℕ
  pub mapped : Option (List Kind)

-- what a keeper remembers of its device, to find blocks and the next gate again: the header in force and its slot, the
-- states of the blocks at the base, a checkpoint of each area in use before the last, in the order of the ring, and the
-- area that groups are added to
pub record Memory : Type 0 where
  pub header : Header
  pub slot : Side
  pub map : List Kind
  pub plans : List PlanState
  pub area : AreaState

pub record KeeperState (D : Type 0) : Type 0 where
  pub disk : D
  pub geometry : Geometry
  -- the generation of the header in force
  pub generation : ℕ
  -- the number of the last command stored
  pub count : ℕ
  -- the number of the last command in map and data
  pub base : ℕ
  -- those of the last commands in the areas in use before the last one, of which the first becomes the base
  pub turned : List ℕ
  -- how many blocks each of these areas leaves to copy; of the first, how many of them are left
  pub lefts : List ℕ
  -- the place of the next gate in the area that groups are added to
  pub used : ℕ
  pub phase : Phase
  -- whether a call of the device has failed
  pub failed : Bool
  -- what it remembers, which no caller needs: `Keeps`, `Holds` and `Remembers` say what it is
  pub memory : Memory

-- whether the last touch of a block is a put
abbrev pub is_put : Option Touch → Bool
is_put None = false
is_put (Some (Put place)) = true
is_put (Some (Clear kind)) = false

-- how many of the first N blocks have a put as their last touch
unfoldable pub count_puts : ℕ → List TouchedRange → ℕ
count_puts zero touched = 0
count_puts (suc block) touched = count_puts block touched + (if is_put (last_touch block touched) then 1 else 0)

-- the phase, by how many blocks are left to copy and the map that was written
abbrev pub phase_in : ℕ → Option (List Kind) → Phase
phase_in left None = Copying left
phase_in left (Some states) = Mapped

abbrev pub phase_of : List PlanState → Phase
phase_of [] = One
phase_of (plan ∷ plans) = phase_in plan.left plan.mapped

-- the number of the last command in an area, or of the last one before it where its list is empty
abbrev pub last_number : AreaState → ℕ
last_number area = (area.next + 18446744073709551615) % 18446744073709551616

-- these numbers of areas that stand before the last
abbrev pub turned_of : List PlanState → List ℕ
turned_of [] = []
turned_of (plan ∷ plans) = last_number plan.first ∷ turned_of plans

-- the last of them, or the base where there is none
abbrev pub last_turned : ℕ → List ℕ → ℕ
last_turned base [] = base
last_turned base (first ∷ rest) = last_turned first rest

-- how many blocks each of these areas leaves to copy
abbrev pub lefts_of : List PlanState → List ℕ
lefts_of [] = []
lefts_of (plan ∷ plans) = plan.left ∷ lefts_of plans

-- the areas in use before the last, in the order of the ring
abbrev pub earlier_of : List PlanState → List AreaState
earlier_of [] = []
earlier_of (plan ∷ plans) = plan.first ∷ earlier_of plans

-- nothing of the area is copied yet
abbrev pub IsUncopied : PlanState → Type 0
IsUncopied plan = plan ≡ record { first = plan.first; copied = 0; left = count_puts plan.first.blocks plan.first.touched; mapped = None }

abbrev pub AreUncopied : List PlanState → Type 0
AreUncopied [] = Unit {0}
AreUncopied (plan ∷ plans) = IsUncopied plan × AreUncopied plans

-- ranges tell of each of this many blocks the same last touch
abbrev pub TellSame : ℕ → List TouchedRange → List TouchedRange → Type 0
TellSame blocks ranges others = (block : ℕ) → block < blocks → last_touch block ranges ≡ last_touch block others

-- What a checkpoint remembers of an area: where it stands, and the number after its list, but not where that list ends. What its
-- commands touched it remembers by the last touch of each block alone.
pub record IsRemembered (remembered area : AreaState) : Type 0 where
  pub from : remembered.from ≡ area.from
  pub bytes : remembered.bytes ≡ area.bytes
  pub blocks : remembered.blocks ≡ area.blocks
  pub next : remembered.next ≡ area.next
  pub touched : TellSame area.blocks remembered.touched area.touched

-- a checkpoint of this area, of which nothing is copied
pub record IsPlanOf (area : AreaState) (plan : PlanState) : Type 0 where
  pub remembered : IsRemembered plan.first area
  pub uncopied : IsUncopied plan

-- the states of the blocks after these touches, where these are the states before
pub record AreStatesAfter (touched : List TouchedRange) (before after : List Kind) : Type 0 where
  pub count : length after ≡ length before
  pub each : (block : ℕ) → block < length before → state_at after block ≡ kind_after (last_touch block touched) (state_at before block)
