-- The next blocks to copy.
use Rattle.std.proofs.Common.{◌≡◌, ⊎_elim, ℕ, ◌+◌, ◌-◌, ◌*◌, ◌≤◌, ◌<◌, min, Option, Some, None, List, length, sym, ◌∙◌, ap, refl, subst, arith}
use Rattle.std.proofs.lemmas.Bool.{cases_lt}
use Rattle.std.specs.Prelude.{IfSome}
use Rattle.image_model.specs.declared.command.Kind.{Kind}
use Rattle.journal_format.specs.Touches.{last_touch}
use Rattle.journal_format.specs.declared.touch.Touch.TheVariants as journal
use Rattle.latest_writes.specs.Resolved.{ResolvedTouches}
use Rattle.latest_writes.specs.Touches.{touch_on_device}
use Rattle.latest_writes.specs.Puts.{HasNoPut, IsNextPut}
use Rattle.latest_writes.specs.declared.range.PutRange.{PutRange}
use Rattle.latest_writes.specs.declared.touch.LastTouch.{LastTouch}
use Rattle.device_image.specs.Keeper.{PlanState, count_puts, is_put}
use Rattle.device_image.specs.Plan.{IsNextCopy, IsPlan}
use Rattle.device_image.proofs.BlocksLeftToCopy.{is_put_at}
use Rattle.device_image.specs.laws.Puts.{all_counted, count_more, none_counted}

some_is_none : {touch : LastTouch} → Some touch ≡ None → ⊥
some_is_none is = cc

module _ (plan : PlanState) (touches : ResolvedTouches) (is : IsPlan plan.first touches plan.copied plan.left plan.mapped) where
  -- nothing is left where no put comes
  pub none_left : HasNoPut plan.copied touches.ranges → plan.left ≡ 0
  none_left none =
      let n = plan.first.blocks - plan.copied in
      let end : plan.copied + n ≡ plan.first.blocks = omega (arith, is.within) in
      let same = none_counted plan.copied n plan.first.touched (λ block low high.
      is_put_at plan.first.from plan.first.blocks plan.first.touched touches.ranges is.last block (omega (arith, high, end)) ∙ none block low) in
      omega (arith, same, is.counted, ap (λ (b : ℕ). count_puts b plan.first.touched) end)

  module _ (put : PutRange) (next : IsNextPut plan.copied touches.ranges put) where
    -- a put is of blocks of the image
    put_inside : (k : ℕ) → k < put.blocks → put.first + k < plan.first.blocks
    put_inside k below = ⊎_elim
        (λ inside. inside)
        (λ past. absurd (some_is_none (sym (next.puts k below) ∙ is.last.none (put.first + k) past)))
        (cases_lt (put.first + k) plan.first.blocks)

    put_on_device : (k : ℕ) → k < put.blocks → last_touch (put.first + k) plan.first.touched ≡ Some (journal.Put (plan.first.from + (put.place + 4096 * k)))
    put_on_device k below = sym (is.last.exact (put.first + k) (put_inside k below)) ∙ ap (touch_on_device plan.first.from) (next.puts k below)

    pub next_copy : (most n : ℕ) → 1 ≤ most → n ≡ min put.blocks most → IsNextCopy plan most (record { first = put.first; blocks = n; place = put.place })
    next_copy most n some n_is =
        let few : n ≤ put.blocks = omega (arith, n_is) in
        let one : 1 ≤ n = omega (arith, n_is, some, next.some) in
        let last = put_inside (n - 1) (omega (arith, few, one)) in
        let gap = put.first - plan.copied in
        let at : plan.copied + gap ≡ put.first = omega (arith, next.behind) in
        let none = none_counted plan.copied gap plan.first.touched (λ block low high.
        is_put_at plan.first.from plan.first.blocks plan.first.touched touches.ranges is.last block (omega (arith, high, at, last)) ∙ next.first block low (omega (arith, high, at))) in
        let all = all_counted put.first n plan.first.touched (λ k below. ap is_put (put_on_device k (omega (arith, below, few)))) in
        let rest = plan.first.blocks - (put.first + n) in
        let end : put.first + n + rest ≡ plan.first.blocks = omega (arith, last, one) in
        let more = count_more (put.first + n) rest plan.first.touched in
        let bytes = is.puts_within (put.first + (n - 1)) (plan.first.from + (put.place + 4096 * (n - 1))) (put_on_device (n - 1) (omega (arith, few, one))) in
        record {
          behind = next.behind;
          some = one;
          few = omega (arith, n_is);
          inside = omega (arith, last, one);
          fits = omega (arith, last, one, is.few);
          first = λ block low high. is_put_at plan.first.from plan.first.blocks plan.first.touched touches.ranges is.last block (omega (arith, high, last)) ∙ next.first block low high;
          puts = λ k below. put_on_device k (omega (arith, below, few));
          left = omega (arith, is.counted, none, all, more, ap (λ (b : ℕ). count_puts b plan.first.touched) at, ap (λ (b : ℕ). count_puts b plan.first.touched) end);
          bytes = omega (arith, bytes, one);
        }

  -- after these blocks are copied
  some_left : (mapped : Option (List Kind)) (left blocks : ℕ) → 1 ≤ left → IfSome mapped (λ states. (left ≡ 0) × (length states ≡ blocks)) → mapped ≡ None
  some_left None left blocks some done = refl
  some_left (Some states) left blocks some done = absurd (omega (arith, some, done.0))

  -- the map isn't written where a block is left
  pub unmapped : 1 ≤ plan.left → plan.mapped ≡ None
  unmapped some = some_left plan.mapped plan.left plan.first.blocks some is.done

  pub advanced : (put : PutRange) (most : ℕ) → IsNextCopy plan most put → plan.mapped ≡ None → IsPlan plan.first touches (put.first + put.blocks) (plan.left - put.blocks) plan.mapped
  advanced put most next none_mapped =
      let gap = put.first - plan.copied in
      let at : plan.copied + gap ≡ put.first = omega (arith, next.behind) in
      let none = none_counted plan.copied gap plan.first.touched (λ block low high. next.first block low (omega (arith, high, at))) in
      let all = all_counted put.first put.blocks plan.first.touched (λ k below. ap is_put (next.puts k below)) in
      record {
        blocks = is.blocks;
        few = is.few;
        last = is.last;
        puts_within = is.puts_within;
        within = next.inside;
        counted = omega (arith, is.counted, none, all, next.left, ap (λ (b : ℕ). count_puts b plan.first.touched) at);
        done = subst (λ (mapped : Option (List Kind)). IfSome mapped (λ states. (plan.left - put.blocks ≡ 0) × (length states ≡ plan.first.blocks))) (sym none_mapped) tt;
      }
