use Rattle.std.proofs.Common.{◌+◌, ◌-◌, drop, min, ap, sym, refl, subst, ◌∙◌, arith}
use Rattle.latest_writes.specs.declared.range.LastRange.{LastRange}
use Rattle.latest_writes.specs.inner.Ranges.{IsPartOf}
use Rattle.latest_writes.proofs.NewerOverOlder.{none_before_first, part_of_first}
use Rattle.latest_writes.proofs.overlay.part_of.Goals as goal

pub returns-then-to-first-clause-none : goal.returns-then-to-first-clause-none
returns-then-to-first-clause-none c =
    none_before_first _ _ c.in_ok-range.range c.args.from c.args.to c.in_ok-range.ensures.some c.requires.apart (omega (arith, c.max-first.ensures, c.if-to-first.true))

pub returns-clause-part : goal.returns-clause-part
returns-clause-part c =
    let range = c.in_ok-range.range in
    let first = c.max-first.result in
    let part_is = c.before-2.ensures ∙ ap (λ (r : LastRange). record r { blocks = min r.blocks (c.args.to - r.first) }) c.from_block.ensures in
    let P : LastRange → Type 0 = λ part. IsPartOf (drop c.args.index c.args.ranges.now) c.args.from c.args.to part in
    subst P (sym part_is)
    (part_of_first _ _ range c.args.from c.args.to first (min (range.first + range.blocks - first) (c.args.to - first)) c.in_ok-range.ensures.some c.requires.apart (c.requires.behind range _ c.in_ok-range.ensures.some) c.max-first.ensures c.if-to-first.false refl)
