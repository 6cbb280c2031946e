-- three lists of frames
use Rattle.std.specs.Prelude.{ℕ, ◌≡◌, ◌+◌, ◌==◌, not, nat_lt, if◌then◌else◌, List, [], ◌∷◌, ◌++◌, length, filter}
use Rattle.frame_pool.specs.declared.place.Place.{Place}
use Rattle.frame_pool.specs.declared.place.Place.TheVariants.{Free, Clean, Dirty}

-- the frames that are free, clean and dirty, each list from its front to its back
pub record ListsState : Type 0 where
  pub free : List ℕ
  pub clean : List ℕ
  pub dirty : List ℕ

-- how many frames the lists hold
abbrev pub total : ListsState → ℕ
total lists = length lists.free + length lists.clean + length lists.dirty

-- how often a frame stands in a list
abbrev pub times : ℕ → List ℕ → ℕ
times frame [] = 0
times frame (other ∷ rest) = (if other == frame then 1 else 0) + times frame rest

-- The lists together hold each of their frames once.
abbrev pub HoldEach : ListsState → Type 0
HoldEach lists =
    (frame : ℕ) → times frame lists.free + times frame lists.clean + times frame lists.dirty ≡ (if nat_lt frame (total lists) then 1 else 0)

-- a list without a frame
abbrev pub without : ℕ → List ℕ → List ℕ
without frame list = filter (λ other. not (other == frame)) list

-- the lists with the frame taken from where it is to the back of this list
abbrev pub moved : ListsState → ℕ → Place → ListsState
moved lists frame Free = record { free = without frame lists.free ++ frame ∷ []; clean = without frame lists.clean; dirty = without frame lists.dirty }
moved lists frame Clean = record { free = without frame lists.free; clean = without frame lists.clean ++ frame ∷ []; dirty = without frame lists.dirty }
moved lists frame Dirty = record { free = without frame lists.free; clean = without frame lists.clean; dirty = without frame lists.dirty ++ frame ∷ [] }
