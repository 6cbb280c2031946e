-- The range that a block is in, if there is one.
use Rattle.std.proofs.Common.{◌≡◌, ℕ, zero, suc, ◌+◌, ◌≤◌, ◌<◌, None, List, [], ◌∷◌, length, get_or, All, ◌∙◌, refl, arith}
use Rattle.std.specs.List.{AllWithin}
use Rattle.std.specs.List.Sorted.{IsNonDecreasingBy}
use Rattle.latest_writes.specs.declared.range.LastRange.{LastRange}
use Rattle.latest_writes.specs.Touches.{said_by}
use Rattle.latest_writes.specs.Ranges.{AreRanges, IsRange, touch_at}
use Rattle.latest_writes.specs.inner.Ranges.{RangeEndsBehind, RangeEndsBy}
use Rattle.latest_writes.specs.laws.Said.{touch_at_first, touch_at_rest}
use Rattle.latest_writes.proofs.NextPut.{All-cons, All-weaker, NonDecreasing-cons}

-- the first range that ends after a block is the one that tells of it
pub touched : (from to block index : ℕ) (ranges : List LastRange) → AreRanges from to ranges → AllWithin (RangeEndsBy block) ranges 0 index → AllWithin (RangeEndsBehind block) ranges index (length ranges)
    → index < length ranges → (d : LastRange) → touch_at block ranges ≡ said_by (get_or ranges index d).first (get_or ranges index d).blocks (get_or ranges index d).touch block
touched from to block index [] apart before behind inside d = absurd (omega (arith, inside))
touched from to block zero (range ∷ ranges) apart before behind inside d = touch_at_first from to range ranges block apart (behind 0 d (omega arith) inside)
touched from to block (suc index) (range ∷ ranges) apart before behind inside d =
    touch_at_rest range ranges block (before 0 d (omega arith) (omega arith))
    ∙ touched (range.first + range.blocks) to block index ranges apart.2 (λ k e low high. before (suc k) e (omega arith) (omega (arith, high)))
    (λ k e low high. behind (suc k) e (omega (arith, low)) (omega (arith, high))) (omega (arith, inside)) d

-- and where none ends after it none tells of it
pub untouched : (from to block : ℕ) (ranges : List LastRange) → AreRanges from to ranges → AllWithin (RangeEndsBy block) ranges 0 (length ranges) → touch_at block ranges ≡ None
untouched from to block [] apart before = refl
untouched from to block (range ∷ ranges) apart before =
    touch_at_rest range ranges block (before 0 range (omega arith) (omega arith))
    ∙ untouched (range.first + range.blocks) to block ranges apart.2 (λ k e low high. before (suc k) e (omega arith) (omega (arith, high)))

ends_behind : (from to : ℕ) (ranges : List LastRange) → AreRanges from to ranges → All (λ range. from ≤ range.first + range.blocks) ranges
ends_behind from to [] apart = λ k d below. absurd (omega (arith, below))
ends_behind from to (range ∷ ranges) apart = All-cons (λ (next : LastRange). from ≤ next.first + next.blocks) range ranges (omega (arith, apart.0))
    (All-weaker (λ (next : LastRange). range.first + range.blocks ≤ next.first + next.blocks) (λ (next : LastRange). from ≤ next.first + next.blocks) ranges
    (λ next after. omega (arith, after, apart.0)) (ends_behind (range.first + range.blocks) to ranges apart.2))

-- the ends of ranges ascend
pub ascending_ranges : (from to : ℕ) (ranges : List LastRange) → AreRanges from to ranges → IsNonDecreasingBy (λ range. range.first + range.blocks) ranges
ascending_ranges from to [] apart = λ i j d order below. absurd (omega (arith, below))
ascending_ranges from to (range ∷ ranges) apart =
    NonDecreasing-cons (λ (next : LastRange). next.first + next.blocks) range ranges (ends_behind (range.first + range.blocks) to ranges apart.2) (ascending_ranges (range.first + range.blocks) to ranges apart.2)

-- one of some ranges is a range
pub range_inside : (from to index : ℕ) (ranges : List LastRange) → AreRanges from to ranges → index < length ranges → (d : LastRange) → IsRange (get_or ranges index d)
range_inside from to index [] apart inside d = absurd (omega (arith, inside))
range_inside from to zero (range ∷ ranges) apart inside d = apart.1
range_inside from to (suc index) (range ∷ ranges) apart inside d = range_inside (range.first + range.blocks) to index ranges apart.2 (omega (arith, inside)) d
