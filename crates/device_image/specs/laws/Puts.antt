-- How many of the first blocks have a put as their last touch.
use Rattle.std.proofs.Common.{◌≡◌, ℕ, zero, suc, ◌+◌, ◌≤◌, ◌<◌, Bool, true, false, if◌then◌else◌, Option, List, sym, ◌∙◌, ap, refl, arith}
use Rattle.journal_format.specs.Touches.{last_touch}
use Rattle.journal_format.specs.declared.touch.Touch.{Touch}
use Rattle.journal_format.specs.declared.touch.TouchedRange.{TouchedRange}
use Rattle.device_image.specs.Keeper.{TellSame, count_puts, is_put}

abbrev pub one_if : Bool → ℕ
one_if b = if b then 1 else 0

pub count_suc : (block : ℕ) (touched : List TouchedRange) → count_puts (suc block) touched ≡ count_puts block touched + (if is_put (last_touch block touched) then 1 else 0)
unfolding count_puts
count_suc block touched = refl

pub count_zero : (touched : List TouchedRange) → count_puts 0 touched ≡ 0
unfolding count_puts
count_zero touched = refl

-- where none of some blocks is a put, and where each is
pub none_counted : (from n : ℕ) (touched : List TouchedRange) → ((block : ℕ) → from ≤ block → block < from + n → is_put (last_touch block touched) ≡ false) → count_puts (from + n) touched ≡ count_puts from touched
none_counted from zero touched none = ap (λ (b : ℕ). count_puts b touched) (let same : from + 0 ≡ from = omega arith in same)
none_counted from (suc n) touched none =
    let rest = none_counted from n touched (λ block low high. none block low (omega (arith, high))) in
    let next : from + suc n ≡ suc (from + n) = omega arith in
    let one : (if is_put (last_touch (from + n) touched) then 1 else 0) ≡ 0 = ap one_if (none (from + n) (omega arith) (omega arith)) in
    omega (arith, rest, ap (λ (b : ℕ). count_puts b touched) next, count_suc (from + n) touched, one)

pub all_counted : (from n : ℕ) (touched : List TouchedRange) → ((k : ℕ) → k < n → is_put (last_touch (from + k) touched) ≡ true) → count_puts (from + n) touched ≡ count_puts from touched + n
all_counted from zero touched all = let same : from + 0 ≡ from = omega arith in omega (arith, ap (λ (b : ℕ). count_puts b touched) same)
all_counted from (suc n) touched all =
    let rest = all_counted from n touched (λ k below. all k (omega (arith, below))) in
    let next : from + suc n ≡ suc (from + n) = omega arith in
    let one : (if is_put (last_touch (from + n) touched) then 1 else 0) ≡ 1 = ap one_if (all n (omega arith)) in
    omega (arith, rest, ap (λ (b : ℕ). count_puts b touched) next, count_suc (from + n) touched, one)

pub count_more : (from n : ℕ) (touched : List TouchedRange) → count_puts from touched ≤ count_puts (from + n) touched
count_more from zero touched = let same : from + 0 ≡ from = omega arith in omega (arith, ap (λ (b : ℕ). count_puts b touched) same)
count_more from (suc n) touched =
    let next : from + suc n ≡ suc (from + n) = omega arith in
    omega (arith, count_more from n touched, ap (λ (b : ℕ). count_puts b touched) next, count_suc (from + n) touched)

pub count_one : (block : ℕ) (touched : List TouchedRange) → is_put (last_touch block touched) ≡ true → count_puts (suc block) touched ≡ count_puts block touched + 1
count_one block touched put = let one : (if is_put (last_touch block touched) then 1 else 0) ≡ 1 = ap one_if put in omega (arith, count_suc block touched, one)

-- ranges that tell the same last touches count the same puts
pub count_same : (n blocks : ℕ) (touched others : List TouchedRange) → n ≤ blocks → TellSame blocks touched others → count_puts n touched ≡ count_puts n others
count_same zero blocks touched others few same = count_zero touched ∙ sym (count_zero others)
count_same (suc n) blocks touched others few same =
    let rest = count_same n blocks touched others (omega (arith, few)) same in
    let one : (if is_put (last_touch n touched) then 1 else 0) ≡ (if is_put (last_touch n others) then 1 else 0) = ap (λ (t : Option Touch). one_if (is_put t)) (same n (omega (arith, few))) in
    omega (arith, rest, one, count_suc n touched, count_suc n others)
