use Rattle.std.proofs.Common.{List, ap, sum_by, sym, subst, ◌∙◌, arith}
use Rattle.latest_writes.specs.declared.range.LastRange.{LastRange}
use Rattle.latest_writes.specs.declared.range.PutRange.{PutRange}
use Rattle.latest_writes.specs.Puts.{puts_of}
use Rattle.latest_writes.specs.Ranges.{AreLastTouches}
use Rattle.latest_writes.proofs.BlocksToCopy.{puts_within}
use Rattle.latest_writes.specs.laws.Said.{AreRanges-before}
use Rattle.latest_writes.proofs.latest_writes.LastTouches.resolve.Goals as goal

pub sum_of_blocks-blocks_to_copy-requires : goal.sum_of_blocks-blocks_to_copy-requires
sum_of_blocks-blocks_to_copy-requires c =
    let ranges = c.shrink_to_fit.new.self.items in
    let touches = subst (λ (l : List LastRange). AreLastTouches c.args.from c.args.blocks c.args.touched.now l) (sym c.shrink_to_fit.ensures.items) c.in_ok-ranges.ensures in
    let same = ap (λ (l : List PutRange). sum_by (λ (put : PutRange). put.blocks) l) (c.deref-2.ensures.value ∙ c.shrink_to_fit-2.ensures.items ∙ c.in_ok-puts.ensures ∙ ap puts_of c.deref.ensures.value) in
    omega (arith, same, puts_within 0 4294967295 ranges touches.apart)

pub invariant_of-result : goal.invariant_of-result
invariant_of-result c =
    let ranges = c.shrink_to_fit.new.self.items in
    let touches = subst (λ (l : List LastRange). AreLastTouches c.args.from c.args.blocks c.args.touched.now l) (sym c.shrink_to_fit.ensures.items) c.in_ok-ranges.ensures in
    record {
      blocks_fit = omega arith;
      apart = AreRanges-before 0 4294967295 c.args.blocks ranges (omega arith) touches.apart touches.none;
      longest = touches.longest;
      puts_are = c.shrink_to_fit-2.ensures.items ∙ c.in_ok-puts.ensures ∙ ap puts_of c.deref.ensures.value;
      copies_are = c.sum_of_blocks-blocks_to_copy.ensures ∙ ap (λ (l : List PutRange). sum_by (λ (put : PutRange). put.blocks) l) c.deref-2.ensures.value;
    }
