-- how often a frame stands in three lists, once one was moved to another list
use Rattle.std.proofs.Common.{◌≡◌, ◌≢◌, ◌<◌, ◌≤◌, ◌+◌, inl, inr, ℕ, List, [], ◌∷◌, ◌++◌, length, refl, ◌∙◌, sym, arith, length-append, slice_get, Some}
use Rattle.std.proofs.lemmas.Bool.{cases_eq, cases_lt, eq-eqb, lt-ltb, le-ltb}
use Rattle.frame_pool.specs.declared.place.Place.{Place}
use Rattle.frame_pool.specs.declared.place.Place.TheVariants.{Free, Clean, Dirty}
use Rattle.frame_pool.specs.Lists.{ListsState, HoldEach, total, times, without, moved}
use Rattle.frame_pool.specs.inner.Lists.{list_at}
use Rattle.frame_pool.specs.laws.Times.{times-append, times-without_same, times-without_other, length-without, times_head, times_other}

-- how often a frame stands in all of them
abbrev pub times_in : ℕ → ListsState → ℕ
times_in frame lists = times frame lists.free + times frame lists.clean + times frame lists.dirty

-- a list without the frame, and the frame after it
pub times-last_same : (frame : ℕ) (xs : List ℕ) → times frame (without frame xs ++ frame ∷ []) ≡ 1
times-last_same frame xs = omega (arith, times-append frame (without frame xs) (frame ∷ []), times-without_same frame xs, times_head frame [])

pub times-last_other : (frame other : ℕ) (xs : List ℕ) → other ≢ frame → times other (without frame xs ++ frame ∷ []) ≡ times other xs
times-last_other frame other xs ne =
    let off = times_other other frame [] (λ e. ne (sym e)) in
    omega (arith, times-append other (without frame xs) (frame ∷ []), times-without_other frame other xs ne, off)

pub length-last : (frame : ℕ) (xs : List ℕ) → length (without frame xs ++ frame ∷ []) + times frame xs ≡ length xs + 1
length-last frame xs = omega (arith, length-append (without frame xs) (frame ∷ []), length-without frame xs)

times-moved_same : (lists : ListsState) (frame : ℕ) (place : Place) → times_in frame (moved lists frame place) ≡ 1
times-moved_same lists frame Free = omega (arith, times-last_same frame lists.free, times-without_same frame lists.clean, times-without_same frame lists.dirty)
times-moved_same lists frame Clean = omega (arith, times-without_same frame lists.free, times-last_same frame lists.clean, times-without_same frame lists.dirty)
times-moved_same lists frame Dirty = omega (arith, times-without_same frame lists.free, times-without_same frame lists.clean, times-last_same frame lists.dirty)

times-moved_other : (lists : ListsState) (frame : ℕ) (place : Place) (other : ℕ) → other ≢ frame → times_in other (moved lists frame place) ≡ times_in other lists
times-moved_other lists frame Free other ne = omega (arith, times-last_other frame other lists.free ne, times-without_other frame other lists.clean ne, times-without_other frame other lists.dirty ne)
times-moved_other lists frame Clean other ne = omega (arith, times-without_other frame other lists.free ne, times-last_other frame other lists.clean ne, times-without_other frame other lists.dirty ne)
times-moved_other lists frame Dirty other ne = omega (arith, times-without_other frame other lists.free ne, times-without_other frame other lists.clean ne, times-last_other frame other lists.dirty ne)

length-moved : (lists : ListsState) (frame : ℕ) (place : Place) → total (moved lists frame place) + times_in frame lists ≡ total lists + 1
length-moved lists frame Free = omega (arith, length-last frame lists.free, length-without frame lists.clean, length-without frame lists.dirty)
length-moved lists frame Clean = omega (arith, length-without frame lists.free, length-last frame lists.clean, length-without frame lists.dirty)
length-moved lists frame Dirty = omega (arith, length-without frame lists.free, length-without frame lists.clean, length-last frame lists.dirty)

-- a frame of the lists stands in them once, another node not at all
pub times_once : (lists : ListsState) (frame : ℕ) → HoldEach lists → frame < total lists → times_in frame lists ≡ 1
times_once lists frame each below = each frame ∙ rw (lt-ltb frame (total lists) below) refl

pub times_none : (lists : ListsState) (node : ℕ) → HoldEach lists → total lists ≤ node → times_in node lists ≡ 0
times_none lists node each above = each node ∙ rw (le-ltb node (total lists) above) refl

pub total-moved : (lists : ListsState) (frame : ℕ) (place : Place) → HoldEach lists → frame < total lists → total (moved lists frame place) ≡ total lists
total-moved lists frame place each below = omega (arith, length-moved lists frame place, times_once lists frame each below)

pub HoldEach-moved : (lists : ListsState) (frame : ℕ) (place : Place) → HoldEach lists → frame < total lists → HoldEach (moved lists frame place)
HoldEach-moved lists frame place each below other =
    rw (total-moved lists frame place each below)
    (elim (cases_eq other frame) [
      | inl e ↦ rw (e, lt-ltb frame (total lists) below) (times-moved_same lists frame place)
      | inr ne ↦ times-moved_other lists frame place other ne ∙ each other
    ])

-- the first frame of a list is one of the lists' frames
first_held : (frame : ℕ) (xs : List ℕ) → slice_get xs 0 ≡ Some frame → 1 ≤ times frame xs
first_held frame [] is = cc
first_held frame (x ∷ xs) is =
    let same : x ≡ frame = cc in
    let first : times frame (x ∷ xs) ≡ 1 + times frame xs = rw (eq-eqb x frame same) refl in
    omega (arith, first)

pub front_held : (lists : ListsState) (place : Place) (frame : ℕ) → HoldEach lists → slice_get (list_at lists place) 0 ≡ Some frame → frame < total lists
front_held lists place frame each is =
    elim (cases_lt frame (total lists)) [
      | inl below ↦ below
      | inr above ↦ absurd (held_not lists place frame (first_held frame (list_at lists place) is) (times_none lists frame each above))
    ]
  where
    held_not : (lists : ListsState) (place : Place) (frame : ℕ) → 1 ≤ times frame (list_at lists place) → times_in frame lists ≡ 0 → ⊥
    held_not lists Free frame some none = omega arith
    held_not lists Clean frame some none = omega arith
    held_not lists Dirty frame some none = omega arith
