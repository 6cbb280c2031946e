-- One more range after others.
use Rattle.std.proofs.Common.{◌≡◌, ⊎_elim, ℕ, ◌+◌, ◌-◌, ◌≤◌, Option, Some, None, List, [], ◌∷◌, ◌++◌, sym, ◌∙◌, ap, subst, refl, arith}
use Rattle.std.proofs.lemmas.Bool.{cases_lt}
use Rattle.latest_writes.specs.declared.touch.LastTouch.{LastTouch}
use Rattle.latest_writes.specs.declared.range.LastRange.{LastRange}
use Rattle.latest_writes.specs.Touches.{later, said_by, touch_within}
use Rattle.latest_writes.specs.Ranges.{AreLongest, AreRanges, GoesOn, IsRange, touch_at}
use Rattle.latest_writes.specs.laws.Said.{later_later, said_before, said_behind, said_inside, touch_at-append, touch_within-touch_within, AreRanges-earlier, HasBytesWithin-joined}

-- ranges after others
pub AreRanges-append : (from at to : ℕ) (xs ys : List LastRange) → AreRanges from at xs → AreRanges at to ys → AreRanges from to (xs ++ ys)
AreRanges-append from at to [] ys one two = AreRanges-earlier from at to ys one two
AreRanges-append from at to (x ∷ xs) ys one two = (one.0, one.1, AreRanges-append (x.first + x.blocks) at to xs ys one.2 two)

-- the last range, and those before it
pub AreRanges-last : (from to : ℕ) (xs : List LastRange) (last : LastRange) → AreRanges from to (xs ++ last ∷ []) → AreRanges from last.first xs × IsRange last × (last.first + last.blocks ≤ to)
AreRanges-last from to [] last apart = (apart.0, apart.1, apart.2)
AreRanges-last from to (x ∷ xs) last apart =
    let rest = AreRanges-last (x.first + x.blocks) to xs last apart.2 in
    ((apart.0, apart.1, rest.0), rest.1, rest.2)

-- the range before one more doesn't go on to it
pub AreLongest-push : (xs : List LastRange) (last range : LastRange) → AreLongest (xs ++ last ∷ []) → (GoesOn last range → ⊥) → AreLongest ((xs ++ last ∷ []) ++ range ∷ [])
AreLongest-push [] last range longest ends = (ends, (tt, tt))
AreLongest-push (x ∷ []) last range longest ends = (longest.0, AreLongest-push [] last range longest.1 ends)
AreLongest-push (x ∷ y ∷ xs) last range longest ends = (longest.0, AreLongest-push (y ∷ xs) last range longest.1 ends)

-- the last range may be longer
pub AreLongest-longer : (xs : List LastRange) (last longer : LastRange) → longer.first ≡ last.first → longer.touch ≡ last.touch → AreLongest (xs ++ last ∷ []) → AreLongest (xs ++ longer ∷ [])
AreLongest-longer [] last longer first touch longest = (tt, tt)
AreLongest-longer (x ∷ []) last longer first touch longest = ((λ goes_on. longest.0 (goes_on.0 ∙ first, goes_on.1 ∙ touch)), (tt, tt))
AreLongest-longer (x ∷ y ∷ xs) last longer first touch longest = (longest.0, AreLongest-longer (y ∷ xs) last longer first touch longest.1)

-- a range and one that goes on from it say what the two say as one
pub said_by_both : (last range : LastRange) → GoesOn last range → (block : ℕ)
    → said_by last.first (last.blocks + range.blocks) last.touch block ≡ later (said_by last.first last.blocks last.touch block) (said_by range.first range.blocks range.touch block)
said_by_both last range goes_on block = ⊎_elim
    (λ low. said_before last.first (last.blocks + range.blocks) last.touch block low
    ∙ sym (ap (λ (t : Option LastTouch). later t (said_by range.first range.blocks range.touch block)) (said_before last.first last.blocks last.touch block low)
    ∙ ap (λ (t : Option LastTouch). later None t) (said_before range.first range.blocks range.touch block (omega (arith, low, goes_on.0)))))
    (λ high. ⊎_elim
    (λ inside. said_inside last.first (last.blocks + range.blocks) last.touch block high (omega (arith, inside))
    ∙ sym (ap (λ (t : Option LastTouch). later (said_by last.first last.blocks last.touch block) t) (said_before range.first range.blocks range.touch block (omega (arith, inside, goes_on.0)))
    ∙ said_inside last.first last.blocks last.touch block high inside))
    (λ behind. ⊎_elim
    (λ within. said_inside last.first (last.blocks + range.blocks) last.touch block high (omega (arith, within, goes_on.0))
    ∙ ap (λ (t : LastTouch). Some t)
    (sym (touch_within-touch_within (block - range.first) last.blocks (block - last.first) last.touch (omega (arith, behind, goes_on.0)))
    ∙ ap (λ (t : LastTouch). touch_within (block - range.first) t) goes_on.1)
    ∙ sym (ap (λ (t : Option LastTouch). later (said_by last.first last.blocks last.touch block) t) (said_inside range.first range.blocks range.touch block (omega (arith, behind, goes_on.0)) within)))
    (λ past. said_behind last.first (last.blocks + range.blocks) last.touch block (omega (arith, past, goes_on.0))
    ∙ sym (ap (λ (t : Option LastTouch). later t (said_by range.first range.blocks range.touch block)) (said_behind last.first last.blocks last.touch block behind)
    ∙ ap (λ (t : Option LastTouch). later None t) (said_behind range.first range.blocks range.touch block past)))
    (cases_lt block (range.first + range.blocks)))
    (cases_lt block (last.first + last.blocks)))
    (cases_lt block last.first)

-- the last range, and one that goes on from it as one with it
module _ (old front : List LastRange) (last range : LastRange) (are : old ≡ front ++ last ∷ []) where
  known_apart : AreRanges 0 range.first old → AreRanges 0 last.first front × IsRange last × (last.first + last.blocks ≤ range.first)
  known_apart apart = AreRanges-last 0 range.first front last (subst (λ (l : List LastRange). AreRanges 0 range.first l) are apart)

  pub last_is_range : AreRanges 0 range.first old → IsRange last
  last_is_range apart = (known_apart apart).1

  pub joined_apart : AreRanges 0 range.first old → IsRange range → GoesOn last range → AreRanges 0 (range.first + range.blocks) (front ++ (record last { blocks = last.blocks + range.blocks }) ∷ [])
  joined_apart apart is_range goes_on =
      let known = known_apart apart in
      let bytes = HasBytesWithin-joined 4294967295 last.blocks range.blocks last.touch range.touch goes_on.1 is_range.bytes_fit in
      AreRanges-append 0 last.first (range.first + range.blocks) front ((record last { blocks = last.blocks + range.blocks }) ∷ []) known.0
      (omega arith, record { some = omega (arith, is_range.some); blocks_fit = omega (arith, is_range.blocks_fit, goes_on.0); bytes_fit = bytes }, omega (arith, goes_on.0))

  pub joined_longest : AreLongest old → AreLongest (front ++ (record last { blocks = last.blocks + range.blocks }) ∷ [])
  joined_longest longest = AreLongest-longer front last (record last { blocks = last.blocks + range.blocks }) refl refl (subst (λ (l : List LastRange). AreLongest l) are longest)

  pub joined_exact : GoesOn last range → (block : ℕ)
      → touch_at block (front ++ (record last { blocks = last.blocks + range.blocks }) ∷ []) ≡ later (touch_at block old) (said_by range.first range.blocks range.touch block)
  joined_exact goes_on block =
      touch_at-append block front ((record last { blocks = last.blocks + range.blocks }) ∷ [])
      ∙ ap (λ (t : Option LastTouch). later (touch_at block front) t) (said_by_both last range goes_on block)
      ∙ later_later (touch_at block front) (said_by last.first last.blocks last.touch block) (said_by range.first range.blocks range.touch block)
      ∙ ap (λ (t : Option LastTouch). later t (said_by range.first range.blocks range.touch block)) (sym (touch_at-append block front (last ∷ [])) ∙ ap (λ (l : List LastRange). touch_at block l) (sym are))

  pub pushed_longest : AreLongest old → (GoesOn last range → ⊥) → AreLongest (old ++ range ∷ [])
  pushed_longest longest ends =
      subst (λ (l : List LastRange). AreLongest (l ++ range ∷ [])) (sym are) (AreLongest-push front last range (subst (λ (l : List LastRange). AreLongest l) are longest) ends)

-- one range more after the others
pub pushed_apart : (old : List LastRange) (range : LastRange) → AreRanges 0 range.first old → IsRange range → AreRanges 0 (range.first + range.blocks) (old ++ range ∷ [])
pushed_apart old range apart is_range = AreRanges-append 0 range.first (range.first + range.blocks) old (range ∷ []) apart (omega arith, is_range, omega arith)

pub pushed_exact : (old : List LastRange) (range : LastRange) (block : ℕ) → touch_at block (old ++ range ∷ []) ≡ later (touch_at block old) (said_by range.first range.blocks range.touch block)
pushed_exact old range block = touch_at-append block old (range ∷ [])
