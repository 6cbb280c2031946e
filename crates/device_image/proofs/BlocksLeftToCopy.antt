-- How many blocks of an area are left to copy.
use Rattle.std.proofs.Common.{◌≡◌, ℕ, zero, suc, ◌+◌, ◌≤◌, ◌<◌, cond, if◌then◌else◌, count_by, Option, Some, None, List, [], ◌∷◌, ◌++◌, sym, ◌∙◌, ap, refl, arith}
use Rattle.std.specs.List.{range_with_len}
use Rattle.std.proofs.lemmas.List.Sums.{sum_by_push}
use Rattle.journal_format.specs.Touches.{last_touch}
use Rattle.journal_format.specs.declared.touch.TouchedRange.{TouchedRange}
use Rattle.latest_writes.specs.declared.touch.LastTouch.{LastTouch}
use Rattle.latest_writes.specs.declared.touch.LastTouch.TheVariants.{Put, Clear}
use Rattle.latest_writes.specs.declared.range.LastRange.{LastRange}
use Rattle.latest_writes.specs.Touches.{touch_on_device}
use Rattle.latest_writes.specs.Ranges.{AreLastTouches, touch_at}
use Rattle.latest_writes.specs.Puts as puts
use Rattle.device_image.specs.Keeper.{count_puts, is_put}
use Rattle.device_image.specs.laws.Puts.{count_suc, count_zero, one_if}

-- a last touch is a put in the area where it is one on the device
put_on_device : (from : ℕ) (touch : Option LastTouch) → is_put (touch_on_device from touch) ≡ puts.is_put touch
put_on_device from None = refl
put_on_device from (Some (Put place)) = refl
put_on_device from (Some (Clear kind)) = refl

module _ (from blocks : ℕ) (touched : List TouchedRange) (ranges : List LastRange) (last : AreLastTouches from blocks touched ranges) where
  pub is_put_at : (block : ℕ) → block < blocks → is_put (last_touch block touched) ≡ puts.is_put (touch_at block ranges)
  is_put_at block below = ap is_put (sym (last.exact block below)) ∙ put_on_device from (touch_at block ranges)

  range_push : (a n : ℕ) → range_with_len a (suc n) ≡ range_with_len a n ++ (a + n) ∷ []
  range_push a zero = ap (λ (k : ℕ). k ∷ []) (let same : a ≡ a + 0 = omega arith in same)
  range_push a (suc n) =
      let at : a + 1 + n ≡ a + suc n = omega arith in
      ap (λ (l : List ℕ). a ∷ l) (range_push (a + 1) n) ∙ ap (λ (k : ℕ). a ∷ (range_with_len (a + 1) n ++ k ∷ [])) at

  counted_to : (n : ℕ) → n ≤ blocks → count_by (λ block. puts.is_put (touch_at block ranges)) (range_with_len 0 n) ≡ count_puts n touched
  counted_to zero within = sym (count_zero touched)
  counted_to (suc n) within =
      let rest = counted_to n (omega (arith, within)) in
      let one : cond (puts.is_put (touch_at n ranges)) 1 0 ≡ (if is_put (last_touch n touched) then 1 else 0) = ap one_if (sym (is_put_at n (omega (arith, within)))) in
      let pushed = ap (λ (l : List ℕ). count_by (λ block. puts.is_put (touch_at block ranges)) l) (range_push 0 n)
      ∙ sum_by_push (λ block. cond (puts.is_put (touch_at block ranges)) 1 0) (range_with_len 0 n) (0 + n) in
      let at : 0 + n ≡ n = omega arith in
      let here = ap {B = ℕ} (λ (k : ℕ). cond (puts.is_put (touch_at k ranges)) 1 0) at in
      omega (arith, rest, pushed, here, one, count_suc n touched)

  -- all that are to be copied
  pub counted_puts : count_by (λ block. puts.is_put (touch_at block ranges)) (range_with_len 0 blocks) ≡ count_puts blocks touched
  counted_puts = counted_to blocks (omega arith)
