use Rattle.std.proofs.Common.{◌≡◌, None, ◌+◌, ◌<◌, length, subst, sym, ◌∙◌, ap, List, arith}
use Rattle.std.specs.List.{AllWithin}
use Rattle.std.specs.List.Sorted.{IsNonDecreasingBy}
use Rattle.latest_writes.specs.declared.range.LastRange.{LastRange}
use Rattle.latest_writes.specs.Ranges.{IsRange, touch_at}
use Rattle.latest_writes.specs.Resolved.{ResolvedTouches}
use Rattle.latest_writes.specs.Touches.{said_by}
use Rattle.latest_writes.specs.inner.Ranges.{RangeEndsBehind, RangeEndsBy}
use Rattle.latest_writes.proofs.RangeOfBlock.{ascending_ranges, range_inside, touched, untouched}
use Rattle.latest_writes.proofs.latest_writes.LastTouches.touch_of.Goals as goal

pub range_after-index-requires : goal.range_after-index-requires
range_after-index-requires c =
    subst (λ (l : List LastRange). IsNonDecreasingBy (λ (range : LastRange). range.first + range.blocks) l) (sym c.deref.ensures.value) (ascending_ranges 0 c.self.inside.blocks c.self.inside.ranges.items c.self.invariant.apart)

pub touch_of-requires-clause-range : goal.touch_of-requires-clause-range
touch_of-requires-clause-range c =
    subst IsRange (sym c.index.ensures) (range_inside 0 c.self.inside.blocks c.range_after-index.result c.self.inside.ranges.items c.self.invariant.apart (omega (arith, c.if-index-len.true, c.len.ensures)) c.index.result.now)

pub returns-then-index-len : goal.returns-then-index-len
returns-then-index-len c =
    let before = subst (λ (l : List LastRange). AllWithin (RangeEndsBy c.args.block) l 0 c.range_after-index.result) c.deref.ensures.value c.range_after-index.ensures.before in
    let behind = subst (λ (l : List LastRange). AllWithin (RangeEndsBehind c.args.block) l c.range_after-index.result (length l)) c.deref.ensures.value c.range_after-index.ensures.behind in
    let found = touched 0 c.self.inside.blocks c.args.block c.range_after-index.result c.self.inside.ranges.items c.self.invariant.apart before behind (omega (arith, c.if-index-len.true, c.len.ensures)) c.index.result.now in
    c.touch_of.ensures ∙ ap (λ (range : LastRange). said_by range.first range.blocks range.touch c.args.block) c.index.ensures ∙ sym found ∙ ap (λ (t : ResolvedTouches). touch_at c.args.block t.ranges) c.self.view_is

pub returns-else-index-len : goal.returns-else-index-len
returns-else-index-len c =
    let before = subst (λ (l : List LastRange). AllWithin (RangeEndsBy c.args.block) l 0 c.range_after-index.result) c.deref.ensures.value c.range_after-index.ensures.before in
    let all : AllWithin (RangeEndsBy c.args.block) c.self.inside.ranges.items 0 (length c.self.inside.ranges.items) = λ k d low high. before k d low (omega (arith, high, c.if-index-len.false, c.len.ensures)) in
    sym (untouched 0 c.self.inside.blocks c.args.block c.self.inside.ranges.items c.self.invariant.apart all) ∙ ap (λ (t : ResolvedTouches). touch_at c.args.block t.ranges) c.self.view_is
