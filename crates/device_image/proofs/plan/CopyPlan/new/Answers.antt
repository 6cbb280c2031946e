use Rattle.std.proofs.Common.{ℕ, ◌+◌, None, ap, sym, ◌∙◌, refl, subst, arith}
use Rattle.journal_format.specs.Touches.{last_touch}
use Rattle.latest_writes.specs.Ranges.{AreLastTouches}
use Rattle.device_image.specs.Keeper.{PlanState, TellSame}
use Rattle.device_image.specs.laws.Puts.{count_zero}
use Rattle.device_image.specs.Plan.{remembered, told_by}
use Rattle.device_image.proofs.BlocksLeftToCopy.{counted_puts}
use Rattle.device_image.proofs.RememberedTouches.{tells_same, told_last, told_within}
use Rattle.device_image.proofs.plan.CopyPlan.new.Goals as goal

pub invariant_of-result : goal.invariant_of-result
invariant_of-result c =
    let area = c.args.area.now in
    let start = c.start.ensures in
    let bytes = c.bytes.ensures in
    let few = c.requires.few in
    let last = subst (λ (from : ℕ). AreLastTouches from c.args.touches.blocks area.touched c.args.touches.ranges) (sym start)
    (subst (λ (blocks : ℕ). AreLastTouches area.from blocks area.touched c.args.touches.ranges) (sym c.requires.blocks) c.requires.last) in
    let told = told_last c.start.result c.args.touches.blocks area.touched c.args.touches.ranges last in
    let counted = c.blocks_to_copy-left.ensures ∙ counted_puts c.start.result c.args.touches.blocks (told_by c.start.result c.args.touches.ranges) c.args.touches.ranges told in
    record {
      blocks = refl;
      few = omega (arith, few, c.requires.blocks);
      last = told;
      puts_within = λ block place is.
          let fits = told_within area.from area.blocks area.touched c.args.touches.ranges c.requires.last (area.from + area.bytes) c.requires.within block place
          (ap (λ (from : ℕ). last_touch block (told_by from c.args.touches.ranges)) (sym start) ∙ is) in
          omega (arith, fits, start, bytes);
      within = omega arith;
      counted = omega (arith, counted, count_zero (told_by c.start.result c.args.touches.ranges));
      done = tt;
    }

pub returns : goal.returns
returns c =
    let area = c.args.area.now in
    let start = c.start.ensures in
    let last = subst (λ (from : ℕ). AreLastTouches from c.args.touches.blocks area.touched c.args.touches.ranges) (sym start)
    (subst (λ (blocks : ℕ). AreLastTouches area.from blocks area.touched c.args.touches.ranges) (sym c.requires.blocks) c.requires.last) in
    let told = told_last c.start.result c.args.touches.blocks area.touched c.args.touches.ranges last in
    let counted = c.blocks_to_copy-left.ensures ∙ counted_puts c.start.result c.args.touches.blocks (told_by c.start.result c.args.touches.ranges) c.args.touches.ranges told in
    record {
      remembered = record {
        from = start;
        bytes = c.bytes.ensures;
        blocks = c.requires.blocks;
        next = c.next.ensures;
        touched = subst (λ (blocks : ℕ). TellSame blocks (told_by c.start.result c.args.touches.ranges) area.touched) c.requires.blocks
            (tells_same c.start.result c.args.touches.blocks area.touched c.args.touches.ranges last);
      };
      uncopied = ap (λ (n : ℕ). let made : PlanState = record { first = remembered c.start.result c.bytes.result c.next.result c.args.touches; copied = 0; left = n; mapped = None } in made) counted;
    }
