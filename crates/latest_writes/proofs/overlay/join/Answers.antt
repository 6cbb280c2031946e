use Rattle.latest_writes.proofs.RangesGrow.{joined_apart, joined_exact, joined_longest, last_is_range, pushed_apart, pushed_exact, pushed_longest}
use Rattle.std.proofs.Common.{◌++◌, ◌∷◌, [], List, ◌≡◌, ap, refl, sym, ◌∙◌}
use Rattle.latest_writes.specs.declared.range.LastRange.{LastRange}
use Rattle.latest_writes.specs.Ranges.{touch_at}
use Rattle.latest_writes.proofs.overlay.join.Goals as goal

pub goes_on-requires : goal.goes_on-requires
goes_on-requires c = last_is_range c.args.ranges.now.items _ c.in-Some.last c.args.range c.in-Some.ensures.items c.requires.apart

pub returns-then-goes_on-clause-apart : goal.returns-then-goes_on-clause-apart
returns-then-goes_on-clause-apart c =
    rw c.in_ok-push-2.ensures.items
    (joined_apart c.args.ranges.now.items _ c.in-Some.last c.args.range c.in-Some.ensures.items c.requires.apart c.requires.range (c.if-goes_on.ensures.0 refl))

pub returns-then-goes_on-clause-longest : goal.returns-then-goes_on-clause-longest
returns-then-goes_on-clause-longest c =
    rw c.in_ok-push-2.ensures.items (joined_longest c.args.ranges.now.items _ c.in-Some.last c.args.range c.in-Some.ensures.items c.requires.longest)

pub returns-then-goes_on-clause-exact : goal.returns-then-goes_on-clause-exact
returns-then-goes_on-clause-exact c = λ block.
    ap (λ (l : List LastRange). touch_at block l) c.in_ok-push-2.ensures.items
    ∙ joined_exact c.args.ranges.now.items _ c.in-Some.last c.args.range c.in-Some.ensures.items (c.if-goes_on.ensures.0 refl) block

-- the last range was taken off and put back
module _ (c : goal.In_ok-push-4) where
  pushed : c.push-3.new.self.items ≡ c.args.ranges.now.items ++ c.args.range ∷ []
  pushed = c.in_ok-push-4.ensures.items ∙ ap (λ (l : List LastRange). l ++ c.args.range ∷ []) (c.in_ok-push-3.ensures.items ∙ sym c.in-Some.ensures.items)

pub returns-clause-apart : goal.returns-clause-apart
returns-clause-apart c = rw (pushed c) (pushed_apart c.args.ranges.now.items c.args.range c.requires.apart c.requires.range)

pub returns-clause-longest : goal.returns-clause-longest
returns-clause-longest c =
    rw (pushed c) (pushed_longest c.args.ranges.now.items _ c.in-Some.last c.args.range c.in-Some.ensures.items c.requires.longest (λ goes_on. let no = c.if-goes_on.ensures.1 goes_on in cc))

pub returns-clause-exact : goal.returns-clause-exact
returns-clause-exact c = λ block. ap (λ (l : List LastRange). touch_at block l) (pushed c) ∙ pushed_exact c.args.ranges.now.items c.args.range block
