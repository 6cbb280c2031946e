-- what stays in a map of dirty blocks once those up to a number are clean
use Rattle.std.proofs.Common.{◌≡◌, ℕ, ◌+◌, ◌<◌, ◌≤◌, Bool, true, false, cond, if◌then◌else◌, Option, Some, None, List, [], ◌∷◌, ◌++◌, length, sym, ap, ◌∙◌, refl, arith}
use Rattle.std.specs.Cmp.{nat_cmp_total}
use Rattle.std.specs.Ordering.{nat_cmp}
use Rattle.std.specs.FinMap.{empty, get, get-empty, get-retain_keys, same_map, nat_cmp-IsAntisymmetric}
use Rattle.std.proofs.lemmas.Bool.{lt-ltb}
use Rattle.std.proofs.lemmas.Bool.Decides.{nat_tests}
use Rattle.image_model.specs.Change.{Change}
use Rattle.image_model.specs.Image.{touches, writes}
use Rattle.image_model.specs.Dirty.{Dirty, is_above, clean_through, dirty_after, dirty_from, dirty_blocks}
use Rattle.image_model.specs.laws.DirtyMaps.{given, get-dirty_after, dirty_from-append}

-- a number where it is above this one
abbrev pub above : ℕ → Option ℕ → Option ℕ
above number found = if is_above number found then found else None

-- what a look-up finds once the blocks up to a number are clean
pub get-clean_through : (dirty : Dirty) (number q : ℕ) → get (clean_through dirty number) q ≡ above number (get dirty q)
get-clean_through dirty number q =
    get-retain_keys dirty (λ block. is_above number (get dirty block)) q
    (λ x tie. sym (ap (λ block. is_above number (get dirty block)) (nat_cmp-IsAntisymmetric q x tie)))

same_dirty : (one other : Dirty) → ((q : ℕ) → get one q ≡ get other q) → one ≡ other
same_dirty = same_map nat_cmp_total nat_cmp-IsAntisymmetric

-- no block has a number above this one
abbrev pub NoneAbove : ℕ → Dirty → Type 0
NoneAbove number dirty = (q : ℕ) → is_above number (get dirty q) ≡ false

-- then none stays
pub none_stays : (dirty : Dirty) (number : ℕ) → NoneAbove number dirty → clean_through dirty number ≡ empty
none_stays dirty number none = same_dirty _ _ (λ q.
    get-clean_through dirty number q
    ∙ ap (λ (b : Bool). cond b (get dirty q) None) (none q)
    ∙ sym (get-empty nat_cmp q))

none_of_empty : (number : ℕ) → NoneAbove number empty
none_of_empty number q = ap (is_above number) (get-empty nat_cmp q)

above_given : (number own q : ℕ) (change : Change) → number < own → above number (given own q change) ≡ given own q change
above_given number own q change later =
    elim (writes q change) as (λ w. above number (if w then Some own else None) ≡ (if w then Some own else None)) [
      | true ↦ ap (λ (b : Bool). cond b (Some own) None) (lt-ltb number own later)
      | false ↦ refl
    ]

above_cases : (number : ℕ) (b : Bool) (o was : Option ℕ) → above number o ≡ o → above number (cond b o was) ≡ cond b o (above number was)
above_cases number true o was is = is
above_cases number false o was is = refl

-- a command with a later number goes on from the cleaned map as from the other
pub cleaned-after : (dirty : Dirty) (number own : ℕ) (change : Change) → number < own
    → clean_through (dirty_after dirty own change) number ≡ dirty_after (clean_through dirty number) own change
cleaned-after dirty number own change later = same_dirty _ _ (λ q.
    get-clean_through (dirty_after dirty own change) number q
    ∙ ap (above number) (get-dirty_after dirty own change q)
    ∙ above_cases number (touches q change) (given own q change) (get dirty q) (above_given number own q change later)
    ∙ sym (get-dirty_after (clean_through dirty number) own change q
    ∙ ap (cond (touches q change) (given own q change)) (get-clean_through dirty number q)))

-- and so do later commands, one after another
pub cleaned-from : (dirty : Dirty) (number last : ℕ) (changes : List Change) → number ≤ last
    → clean_through (dirty_from dirty last changes) number ≡ dirty_from (clean_through dirty number) last changes
cleaned-from dirty number last [] within = refl
cleaned-from dirty number last (change ∷ changes) within =
    cleaned-from (dirty_after dirty (last + 1) change) number (last + 1) changes (omega (arith, within))
    ∙ ap (λ d. dirty_from d (last + 1) changes) (cleaned-after dirty number (last + 1) change (omega (arith, within)))

none_of : (number own q : ℕ) (change : Change) (b : Bool) (was : Option ℕ) → own ≤ number → is_above number was ≡ false → is_above number (cond b (given own q change) was) ≡ false
none_of number own q change false was within none = none
none_of number own q change true was within none =
    elim (writes q change) as (λ w. is_above number (if w then Some own else None) ≡ false) [
      | true ↦ grind (arith, nat_tests, within)
      | false ↦ refl
    ]

none_later : (number more : ℕ) (found : Option ℕ) → number ≤ more → is_above number found ≡ false → is_above more found ≡ false
none_later number more None within none = refl
none_later number more (Some own) within none = grind (arith, nat_tests, within, none)

-- commands have numbers up to their last one
pub none_above : (dirty : Dirty) (last : ℕ) (changes : List Change) → NoneAbove last dirty → NoneAbove (last + length changes) (dirty_from dirty last changes)
none_above dirty last [] none = λ q. none_later last (last + 0) (get dirty q) (omega arith) (none q)
none_above dirty last (change ∷ changes) none = λ q.
    none_later (last + 1 + length changes) (last + length (change ∷ changes)) _ (omega arith)
    (none_above (dirty_after dirty (last + 1) change) (last + 1) changes after q)
  where
    after : NoneAbove (last + 1) (dirty_after dirty (last + 1) change)
    after q =
        ap (is_above (last + 1)) (get-dirty_after dirty (last + 1) change q)
        ∙ none_of (last + 1) (last + 1) q change (touches q change) (get dirty q) (omega arith) (none_later last (last + 1) (get dirty q) (omega arith) (none q))

-- cleaned through the last of some commands, the dirty blocks are those of the commands after them
pub cleaned-blocks : (last : ℕ) (changes more : List Change)
    → clean_through (dirty_blocks last (changes ++ more)) (last + length changes) ≡ dirty_blocks (last + length changes) more
cleaned-blocks last changes more =
    ap (λ d. clean_through d (last + length changes)) (dirty_from-append empty last changes more)
    ∙ cleaned-from (dirty_blocks last changes) (last + length changes) (last + length changes) more (omega arith)
    ∙ ap (λ d. dirty_from d (last + length changes) more)
    (none_stays (dirty_blocks last changes) (last + length changes) (none_above empty last changes (none_of_empty last)))
