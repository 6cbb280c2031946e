-- How many blocks have a put as their last touch.
use Rattle.std.proofs.Common.{◌≡◌, ℕ, zero, suc, ◌+◌, ◌-◌, ◌≤◌, ◌<◌, Bool, true, false, cond, count_by, sum_by, Option, Some, List, [], ◌∷◌, sym, ◌∙◌, ap, refl, arith}
use Rattle.std.specs.List.{range_with_len}
use Rattle.std.proofs.lemmas.List.Sums.{sum_by-append, sum_by-cons}
use Rattle.latest_writes.specs.declared.touch.LastTouch.{LastTouch}
use Rattle.latest_writes.specs.declared.touch.LastTouch.TheVariants.{Put, Clear}
use Rattle.latest_writes.specs.declared.range.LastRange.{LastRange}
use Rattle.latest_writes.specs.declared.range.PutRange.{PutRange}
use Rattle.latest_writes.specs.Touches.{touch_within}
use Rattle.latest_writes.specs.Ranges.{AreRanges, touch_at}
use Rattle.latest_writes.specs.Puts.{is_put, put_of, puts_of}
use Rattle.latest_writes.specs.laws.Said.{said_inside, said_by_none_before, touch_at_first, touch_at_rest, AreRanges-order}

abbrev one_if : Bool → ℕ
one_if b = cond b 1 0

-- this many numbers from one on that pass a test
pub counted : (ℕ → Bool) → ℕ → ℕ → ℕ
counted p from n = count_by p (range_with_len from n)

counted_one : (p : ℕ → Bool) (from n : ℕ) → counted p from (suc n) ≡ one_if (p from) + counted p (from + 1) n
unfolding counted
counted_one p from n = sum_by-cons (λ k. cond (p k) 1 0) from (range_with_len (from + 1) n)

counted_none : (p : ℕ → Bool) (from : ℕ) → counted p from 0 ≡ 0
unfolding counted
counted_none p from = refl

counted_parts : (p : ℕ → Bool) (from a b n at : ℕ) → n ≡ a + b → at ≡ from + a → counted p from n ≡ counted p from a + counted p at b
counted_parts p from zero b n at is at_is =
    let n_is : n ≡ b = omega (arith, is) in
    let at_from : from ≡ at = omega (arith, at_is) in
    let same = ap (λ (k : ℕ). counted p from k) n_is ∙ ap (λ (k : ℕ). counted p k b) at_from in
    omega (arith, same, counted_none p from)
counted_parts p from (suc a) b zero at is at_is = absurd (omega (arith, is))
counted_parts p from (suc a) b (suc n) at is at_is =
    let rest = counted_parts p (from + 1) a b n at (omega (arith, is)) (omega (arith, at_is)) in
    omega (arith, rest, counted_one p from n, counted_one p from a)

-- where each of them has the same answer
counted_all : (p : ℕ → Bool) (from n : ℕ) → ((k : ℕ) → from ≤ k → k < from + n → p k ≡ true) → counted p from n ≡ n
counted_all p from zero all = counted_none p from
counted_all p from (suc n) all =
    let rest = counted_all p (from + 1) n (λ k low high. all k (omega (arith, low)) (omega (arith, high))) in
    let one : one_if (p from) ≡ 1 = ap one_if (all from (omega arith) (omega arith)) in
    omega (arith, rest, counted_one p from n, one)

counted_nothing : (p : ℕ → Bool) (from n : ℕ) → ((k : ℕ) → from ≤ k → k < from + n → p k ≡ false) → counted p from n ≡ 0
counted_nothing p from zero none = counted_none p from
counted_nothing p from (suc n) none =
    let rest = counted_nothing p (from + 1) n (λ k low high. none k (omega (arith, low)) (omega (arith, high))) in
    let one : one_if (p from) ≡ 0 = ap one_if (none from (omega arith) (omega arith)) in
    omega (arith, rest, counted_one p from n, one)

counted_same : (p q : ℕ → Bool) (from n : ℕ) → ((k : ℕ) → from ≤ k → p k ≡ q k) → counted p from n ≡ counted q from n
counted_same p q from zero same = counted_none p from ∙ sym (counted_none q from)
counted_same p q from (suc n) same =
    let rest = counted_same p q (from + 1) n (λ k low. same k (omega (arith, low))) in
    let one : one_if (p from) ≡ one_if (q from) = ap one_if (same from (omega arith)) in
    omega (arith, rest, counted_one p from n, counted_one q from n, one)

-- the blocks of a range
blocks_of_put : (p : ℕ → Bool) (first blocks : ℕ) (touch : LastTouch) → ((k : ℕ) → first ≤ k → k < first + blocks → p k ≡ is_put (Some (touch_within (k - first) touch)))
    → counted p first blocks ≡ sum_by (λ (put : PutRange). put.blocks) (put_of first blocks touch)
blocks_of_put p first blocks (Put place) same = counted_all p first blocks same ∙ omega arith
blocks_of_put p first blocks (Clear kind) same = counted_nothing p first blocks same

pub counted_puts : (from to n : ℕ) (ranges : List LastRange) → AreRanges from to ranges → from + n ≡ to
    → counted (λ block. is_put (touch_at block ranges)) from n ≡ sum_by (λ (put : PutRange). put.blocks) (puts_of ranges)
counted_puts from to n [] apart is = counted_nothing (λ block. false) from n (λ k low high. refl)
counted_puts from to n (range ∷ ranges) apart is =
    let p = λ (block : ℕ). is_put (touch_at block (range ∷ ranges)) in
    let end = range.first + range.blocks in
    let order = AreRanges-order end to ranges apart.2 in
    let before = counted_nothing p from (range.first - from)
    (λ k low high. ap (λ (t : Option LastTouch). is_put t) (said_by_none_before k range.first to (range ∷ ranges) (omega arith, apart.1, apart.2) (omega (arith, high, apart.0)))) in
    let own = blocks_of_put p range.first range.blocks range.touch
    (λ k low high. ap (λ (t : Option LastTouch). is_put t) (touch_at_first from to range ranges k apart high ∙ said_inside range.first range.blocks range.touch k low high)) in
    let behind = counted_same p (λ block. is_put (touch_at block ranges)) end (to - end) (λ k low. ap (λ (t : Option LastTouch). is_put t) (touch_at_rest range ranges k low))
    ∙ counted_puts end to (to - end) ranges apart.2 (omega (arith, order)) in
    let parts = counted_parts p from (range.first - from) (n - (range.first - from)) n range.first (omega (arith, is, apart.0, order)) (omega (arith, apart.0)) in
    let rest = counted_parts p range.first range.blocks (to - end) (n - (range.first - from)) end (omega (arith, is, apart.0, order)) refl in
    omega (arith, before, own, behind, parts, rest, sum_by-append (λ (put : PutRange). put.blocks) (put_of range.first range.blocks range.touch) (puts_of ranges))

pub counted_is : (p : ℕ → Bool) (from n : ℕ) → counted p from n ≡ count_by p (range_with_len from n)
unfolding counted
counted_is p from n = refl

-- they are no more than there are blocks
own_within : (first blocks : ℕ) (touch : LastTouch) → sum_by (λ (put : PutRange). put.blocks) (put_of first blocks touch) ≤ blocks
own_within first blocks (Put place) = omega arith
own_within first blocks (Clear kind) = omega arith

pub puts_within : (from to : ℕ) (ranges : List LastRange) → AreRanges from to ranges → from + sum_by (λ (put : PutRange). put.blocks) (puts_of ranges) ≤ to
puts_within from to [] apart = omega (arith, apart)
puts_within from to (range ∷ ranges) apart =
    let rest = puts_within (range.first + range.blocks) to ranges apart.2 in
    let own = own_within range.first range.blocks range.touch in
    omega (arith, rest, own, apart.0, sum_by-append (λ (put : PutRange). put.blocks) (put_of range.first range.blocks range.touch) (puts_of ranges))
