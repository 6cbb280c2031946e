-- which frames have bytes
use Rattle.std.proofs.Common.{◌≡◌, ◌≢◌, ◌<◌, ◌≤◌, ℕ, zero, suc, inl, inr, Bool, true, false, List, [], ◌∷◌, ◌++◌, length, map, replicate, set, get_or, Option, None, Some, is_some, refl, sym, ap, ◌∙◌, subst, arith}
use Rattle.std.proofs.lemmas.Bool.{cases_eq}
use Rattle.std.proofs.lemmas.List.{get_or-set_same, get_or-set_other, length-set}
use Rattle.frame_pool.specs.declared.place.Place.{Place}
use Rattle.frame_pool.specs.declared.place.Place.TheVariants.{Free, Clean, Dirty}
use Rattle.frame_pool.specs.Cells.{IsWritten}
use Rattle.frame_pool.specs.Frames.{HaveBytes, shown}
use Rattle.frame_pool.specs.inner.Frames.{shown_at}
use Rattle.frame_pool.specs.Linked.{LinkedState}
use Rattle.frame_pool.specs.Lists.{ListsState, times, without, moved}
use Rattle.frame_pool.specs.laws.Times.{times-append, times-without_same, times-without_other, times_other}

pub no_bytes : (X : Type 0) (n : ℕ) → let none : Option X = None in map is_some (replicate n none) ≡ replicate n false
no_bytes X zero = refl
no_bytes X (suc n) = ap (λ (flags : List Bool). false ∷ flags) (no_bytes X n)

module _ {X : Type 0} where
  -- the flag of a frame says whether it has bytes
  pub flag_tells : (cells : List (Option X)) (frame : ℕ) (d : Bool) → frame < length cells
      → get_or (map is_some cells) frame d ≡ is_some (get_or cells frame None)
  flag_tells [] frame d below = absurd (omega arith)
  flag_tells (cell ∷ cells) zero d below = refl
  flag_tells (cell ∷ cells) (suc frame) d below = flag_tells cells frame d (omega arith)

  pub has_bytes : (cell : Option X) → is_some cell ≡ true → (x : X) × (cell ≡ Some x)
  has_bytes None e = cc
  has_bytes (Some x) e = (x, refl)

  has_none : (cell : Option X) → is_some cell ≡ false → cell ≡ None
  has_none None e = refl
  has_none (Some x) e = cc

  -- the flag that was read
  pub flag_read : (cells : List (Option X)) (flags : List Bool) (frame : ℕ) (flag : Bool) → flags ≡ map is_some cells → frame < length cells
      → flag ≡ get_or flags frame flag → flag ≡ is_some (get_or cells frame None)
  flag_read cells flags frame flag are below read = read ∙ ap (λ (l : List Bool). get_or l frame flag) are ∙ flag_tells cells frame flag below

-- a frame that is told to have bytes
pub told_written : {X : Type 0} (cells seen : List (Option X)) (frame : ℕ) (flag : Bool) → cells ≡ seen
    → flag ≡ is_some (get_or seen frame None) → flag ≡ true → IsWritten cells frame
told_written cells seen frame flag shown told set =
    has_bytes (get_or cells frame None) (ap (λ list. is_some (get_or list frame None)) shown ∙ sym told ∙ set)

-- a frame that is told to have none shows zeros
pub told_unwritten : (frames : List (Option (List ℕ))) (frame : ℕ) (flag : Bool) (bytes : List ℕ)
    → flag ≡ is_some (get_or frames frame None) → flag ≡ false → bytes ≡ replicate 4096 0 → bytes ≡ shown_at frames frame
told_unwritten frames frame flag bytes told unset zeros = zeros ∙ ap shown (sym (has_none (get_or frames frame None) (sym told ∙ unset)))

-- a list without a frame holds no more of each
times-without : (frame other : ℕ) (xs : List ℕ) → times other (without frame xs) ≤ times other xs
times-without frame other xs =
    elim (cases_eq other frame) [
      | inl e ↦ rw e (omega (arith, times-without_same frame xs))
      | inr ne ↦ omega (arith, times-without_other frame other xs ne)
    ]

-- what stands in a list with a frame at its back is that frame, or stood there before
times-back : (frame other : ℕ) (xs : List ℕ) → other ≢ frame → times other (without frame xs ++ frame ∷ []) ≤ times other xs
times-back frame other xs ne =
    omega (arith, times-append other (without frame xs) (frame ∷ []), times_other other frame [] (λ e. ne (sym e)), times-without frame other xs)

-- a frame that was moved to a list; one that has bytes to any of them, one that has none to the free ones
HaveBytes-moved : (lists : ListsState) (frames : List (Option (List ℕ))) (frame : ℕ) (place : Place)
    → HaveBytes lists frames → (place ≢ Free → IsWritten frames frame) → HaveBytes (moved lists frame place) frames
HaveBytes-moved lists frames frame Free have written other held =
    have other (omega (arith, held, times-without frame other lists.clean, times-without frame other lists.dirty))
HaveBytes-moved lists frames frame Clean have written other held =
    elim (cases_eq other frame) [
      | inl e ↦ rw e (written (λ is. cc))
      | inr ne ↦ have other (omega (arith, held, times-back frame other lists.clean ne, times-without frame other lists.dirty))
    ]
HaveBytes-moved lists frames frame Dirty have written other held =
    elim (cases_eq other frame) [
      | inl e ↦ rw e (written (λ is. cc))
      | inr ne ↦ have other (omega (arith, held, times-without frame other lists.clean, times-back frame other lists.dirty ne))
    ]

pub have_moved : (lists lists' : LinkedState) (numbers : List (Option ℕ)) (frames : List (Option (List ℕ))) (frame : ℕ) (place : Place)
    → lists' ≡ record { linked = moved lists.linked frame place; numbers = numbers }
    → HaveBytes lists.linked frames → (place ≢ Free → IsWritten frames frame) → HaveBytes lists'.linked frames
have_moved lists lists' numbers frames frame place is have written =
    let P : LinkedState → Type 0 = λ now. HaveBytes now.linked frames in
    subst P (sym is) (HaveBytes-moved lists.linked frames frame place have written)

written_now : (frames : List (Option (List ℕ))) (frame : ℕ) (bytes : List ℕ) → frame < length frames → IsWritten (set frames frame (Some bytes)) frame
written_now frames frame bytes below = (bytes, get_or-set_same frames frame (Some bytes) None below)

HaveBytes-written : (lists : ListsState) (frames : List (Option (List ℕ))) (frame : ℕ) (bytes : List ℕ) → frame < length frames
    → HaveBytes lists frames → HaveBytes lists (set frames frame (Some bytes))
HaveBytes-written lists frames frame bytes below have other held =
    elim (cases_eq other frame) [
      | inl e ↦ rw e (written_now frames frame bytes below)
      | inr ne ↦ let had = have other held in (had.0, get_or-set_other frames frame other (Some bytes) None ne ∙ had.1)
    ]

-- the same of frames one of which the code wrote
module _ (lists : LinkedState) (frames frames' : List (Option (List ℕ))) (frame : ℕ) (bytes : List ℕ) (below : frame < length frames) (is : frames' ≡ set frames frame (Some bytes)) where
  pub is_written : IsWritten frames' frame
  is_written = let P : List (Option (List ℕ)) → Type 0 = λ now. IsWritten now frame in subst P (sym is) (written_now frames frame bytes below)

  pub have_written : HaveBytes lists.linked frames → HaveBytes lists.linked frames'
  have_written have =
      let P : List (Option (List ℕ)) → Type 0 = λ now. HaveBytes lists.linked now in subst P (sym is) (HaveBytes-written lists.linked frames frame bytes below have)

  pub count_written : length frames' ≡ length frames
  count_written = ap length is ∙ length-set frames frame (Some bytes)
