-- the dirty blocks of the last of some commands, among those of all of them
use Rattle.std.proofs.Common.{◌≡◌, ◌⊎◌, inl, inr, ℕ, ◌+◌, ◌-◌, ◌<◌, ◌≤◌, Bool, true, false, cond, if◌then◌else◌, Some, None, List, [], ◌∷◌, ◌++◌, length, length-drop, take, drop, sym, ap, ◌∙◌, subst, arith}
use Rattle.std.proofs.lemmas.Bool.{cases_Bool}
use Rattle.std.proofs.lemmas.List.{drop-append-le, drop-drop, length-take, take-append-drop}
use Rattle.std.specs.List.{list_any}
use Rattle.std.specs.FinMap.{empty, get}
use Rattle.image_model.specs.Change.{Change}
use Rattle.image_model.specs.Image.{touches, writes}
use Rattle.image_model.specs.Dirty.{dirty_after, dirty_blocks, last_write}
use Rattle.image_model.specs.laws.DirtyMaps.{dirty_blocks-push, dirty_from-append, get-dirty_blocks, get-dirty_from, untouched}

-- a write has the number of one of the commands
last_write_within : (q last : ℕ) (changes : List Change) (number : ℕ) → last_write q last changes ≡ Some number → (last < number) × (number ≤ last + length changes)
last_write_within q last [] number is = cc
last_write_within q last (change ∷ later) number is =
    by_touch (list_any (touches q) later) (writes q change) (last_write_within q (last + 1) later number) is
  where
    by_touch : (again put : Bool) → (last_write q (last + 1) later ≡ Some number → (last + 1 < number) × (number ≤ last + 1 + length later))
        → (if again then last_write q (last + 1) later else (if put then Some (last + 1) else None)) ≡ Some number
        → (last < number) × (number ≤ last + length (change ∷ later))
    by_touch true put found at = let above = (found at).0 in let below = (found at).1 in (omega (arith, above), omega (arith, below))
    by_touch false true found at = let same : number ≡ last + 1 = cc in (omega (arith, same), omega (arith, same))
    by_touch false false found at = cc

pub dirty_within : (last : ℕ) (changes : List Change) (q number : ℕ) → get (dirty_blocks last changes) q ≡ Some number → (last < number) × (number ≤ last + length changes)
dirty_within last changes q number is = last_write_within q last changes number (sym (get-dirty_blocks last changes q) ∙ is)

module _ (last : ℕ) (changes more : List Change) (q number : ℕ) where
  all_dirty : get (dirty_blocks last (changes ++ more)) q
      ≡ cond (list_any (touches q) more) (last_write q (last + length changes) more) (get (dirty_blocks last changes) q)
  all_dirty = ap (λ dirty. get dirty q) (dirty_from-append empty last changes more) ∙ get-dirty_from (dirty_blocks last changes) (last + length changes) more q

  -- what is dirty by the last commands is so by all of them
  pub dirty_tail : get (dirty_blocks (last + length changes) more) q ≡ Some number → get (dirty_blocks last (changes ++ more)) q ≡ Some number
  dirty_tail is = by_touch (cases_Bool (list_any (touches q) more))
    where
      at : last_write q (last + length changes) more ≡ Some number
      at = sym (get-dirty_blocks (last + length changes) more q) ∙ is

      by_touch : (list_any (touches q) more ≡ true) ⊎ (list_any (touches q) more ≡ false) → get (dirty_blocks last (changes ++ more)) q ≡ Some number
      by_touch (inl touched) = all_dirty ∙ ap (λ test. cond test (last_write q (last + length changes) more) (get (dirty_blocks last changes) q)) touched ∙ at
      by_touch (inr none) =
          let no_write = sym (untouched q (last + length changes) more) ∙ ap (λ test. cond test (last_write q (last + length changes) more) None) none in
          let clash : None ≡ Some number = sym no_write ∙ at in cc

  -- what is dirty by all of them with the number of one of the last is so by these
  pub dirty_last : last + length changes < number → get (dirty_blocks last (changes ++ more)) q ≡ Some number → get (dirty_blocks (last + length changes) more) q ≡ Some number
  dirty_last above is = by_touch (cases_Bool (list_any (touches q) more))
    where
      by_touch : (list_any (touches q) more ≡ true) ⊎ (list_any (touches q) more ≡ false) → get (dirty_blocks (last + length changes) more) q ≡ Some number
      by_touch (inl touched) = get-dirty_blocks (last + length changes) more q
          ∙ (sym (all_dirty ∙ ap (λ test. cond test (last_write q (last + length changes) more) (get (dirty_blocks last changes) q)) touched) ∙ is)
      by_touch (inr none) =
          let before = dirty_within last changes q number (sym (all_dirty ∙ ap (λ test. cond test (last_write q (last + length changes) more) (get (dirty_blocks last changes) q)) none) ∙ is) in
          let below = before.1 in absurd (omega (arith, below, above))

-- the same of the commands after the first `few`, and of those after the first `many`
module _ (last : ℕ) (changes : List Change) (few many : ℕ) (further : few ≤ many) (within : many ≤ length changes) where
  front : List Change
  front = take (many - few) (drop few changes)

  long : length front ≡ many - few
  unfolding front
  long = omega (arith, length-take (many - few) (drop few changes), length-drop few changes, further, within)

  parts : front ++ drop many changes ≡ drop few changes
  unfolding front
  parts = ap (λ rest. take (many - few) (drop few changes) ++ rest)
      (ap (λ (n : ℕ). drop n changes) (let same : many ≡ few + (many - few) = omega (arith, further) in same) ∙ sym (drop-drop (many - few) few changes))
      ∙ take-append-drop (many - few) (drop few changes)

  number_at : (last + few) + length front ≡ last + many
  number_at = omega (arith, long, further)

  pub dirty_behind_more : (q number : ℕ) → get (dirty_blocks (last + many) (drop many changes)) q ≡ Some number
      → (get (dirty_blocks (last + few) (drop few changes)) q ≡ Some number) × (last + many < number)
  dirty_behind_more q number is = (
    subst (λ (rest : List Change). get (dirty_blocks (last + few) rest) q ≡ Some number) parts (dirty_tail (last + few) front (drop many changes) q number
        (subst (λ (n : ℕ). get (dirty_blocks n (drop many changes)) q ≡ Some number) (sym number_at) is)),
    (dirty_within (last + many) (drop many changes) q number is).0,
  )

  pub dirty_behind_few : (q number : ℕ) → last + many < number → get (dirty_blocks (last + few) (drop few changes)) q ≡ Some number
      → get (dirty_blocks (last + many) (drop many changes)) q ≡ Some number
  dirty_behind_few q number above is = subst (λ (n : ℕ). get (dirty_blocks n (drop many changes)) q ≡ Some number) number_at
      (dirty_last (last + few) front (drop many changes) q number (omega (arith, number_at, above))
      (subst (λ (rest : List Change). get (dirty_blocks (last + few) rest) q ≡ Some number) (sym parts) is))

-- one command more, after the first `count`
pub dirty_behind_push : (last : ℕ) (changes : List Change) (count : ℕ) (change : Change) → count ≤ length changes
    → dirty_blocks (last + count) (drop count (changes ++ change ∷ [])) ≡ dirty_after (dirty_blocks (last + count) (drop count changes)) (last + length changes + 1) change
dirty_behind_push last changes count change within =
    ap (dirty_blocks (last + count)) (drop-append-le count changes (change ∷ []) within)
    ∙ dirty_blocks-push (last + count) (drop count changes) change
    ∙ ap (λ (n : ℕ). dirty_after (dirty_blocks (last + count) (drop count changes)) n change) (omega (arith, length-drop count changes, within))
