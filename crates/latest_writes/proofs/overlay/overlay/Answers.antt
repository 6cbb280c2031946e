use Rattle.std.proofs.Common.{ap, sym, ◌∙◌, Option}
use Rattle.latest_writes.specs.declared.touch.LastTouch.{LastTouch}
use Rattle.latest_writes.specs.Ranges.{touch_at}
use Rattle.latest_writes.specs.Touches.{later}
use Rattle.latest_writes.specs.laws.Said.{AreRanges-later}
use Rattle.latest_writes.proofs.overlay.overlay.Goals as goal

pub join-requires-clause-apart : goal.join-requires-clause-apart
join-requires-clause-apart c = AreRanges-later 0 c.loop-range.laid.done c.in-Some.range.first c.loop-range.ranges.items c.in-Some.ensures.next.behind c.loop-range.invariant.apart

pub returns : goal.returns
returns c =
    let known = c.loop-range.invariant in
    record {
      apart = AreRanges-later 0 c.loop-range.laid.done 4294967295 c.loop-range.ranges.items known.fits known.apart;
      longest = known.longest;
      exact = λ block. sym (known.exact block ∙ ap (λ (t : Option LastTouch). later (touch_at block c.loop-range.ranges.items) t) (c.in_default.ensures.none block));
    }
