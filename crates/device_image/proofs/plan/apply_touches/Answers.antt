use Rattle.std.proofs.Common.{◌+◌, ◌≤◌, List, length, get_or, refl, ◌∙◌, sym, subst, arith}
use Rattle.std.proofs.lemmas.List.{get_or_default, take_all}
use Rattle.latest_writes.specs.declared.range.LastRange.{LastRange}
use Rattle.latest_writes.specs.declared.touch.LastTouch.TheVariants.{Put}
use Rattle.latest_writes.specs.Ranges.{AreRanges}
use Rattle.device_image.proofs.MapAfterArea.{IsLaid, laid_more, laid_none, laid_states, range_ends}
use Rattle.device_image.proofs.plan.apply_touches.Goals as goal

pub loop-range-init : goal.loop-range-init
loop-range-init c = λ from. laid_none from c.ranges-range-items.result.now c.args.map.now c.in_ok-after.after c.in_ok-after.ensures

pub set_range-requires : goal.set_range-requires
set_range-requires c =
    let apart = subst (λ (l : List LastRange). AreRanges 0 c.args.touches.now.blocks l) (sym c.ranges-range-items.ensures.value) c.ranges-range-items.ensures.apart in
    let none : LastRange = record { first = 0; blocks = 0; touch = Put 0 } in
    let ends = range_ends 0 c.args.touches.now.blocks c.ranges-range-items.result.now c.loop-range.range-index none apart c.loop-range-test.true in
    let laid = c.loop-range.invariant 0 in
    omega (arith, ends, c.requires, laid.count)

pub loop-range-preserved : goal.loop-range-preserved
loop-range-preserved c =
    let ranges = c.ranges-range-items.result.now in
    let apart = subst (λ (l : List LastRange). AreRanges 0 c.args.touches.now.blocks l) (sym c.ranges-range-items.ensures.value) c.ranges-range-items.ensures.apart in
    let none : LastRange = record { first = 0; blocks = 0; touch = Put 0 } in
    let range = get_or ranges c.loop-range.range-index none in
    let ends = range_ends 0 c.args.touches.now.blocks ranges c.loop-range.range-index none apart c.loop-range-test.true in
    let fits : range.first + range.blocks ≤ length c.args.map.now = omega (arith, ends, c.requires) in
    λ from. laid_more from ranges c.loop-range.range-index range c.kind_given.result c.args.map.now c.loop-range.after c.set_range.new.self c.loop-range-test.true
    (get_or_default ranges c.loop-range.range-index none range c.loop-range-test.true)
    fits c.kind_given.ensures c.set_range.ensures (c.loop-range.invariant from)

pub returns : goal.returns
returns c = λ from touched last.
    let laid = subst (λ (l : List LastRange). IsLaid from l c.args.map.now c.loop-range.after)
    (take_all c.loop-range.range-index c.ranges-range-items.result.now c.loop-range-test.false ∙ c.ranges-range-items.ensures.value) (c.loop-range.invariant from) in
    laid_states from (length c.args.map.now) touched c.args.touches.now.ranges c.args.map.now c.loop-range.after refl last laid
