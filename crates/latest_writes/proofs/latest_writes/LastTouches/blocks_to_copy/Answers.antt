use Rattle.std.proofs.Common.{◌≡◌, List, ap, sym, subst, count_by, sum_by, ◌∙◌, arith}
use Rattle.std.specs.List.{range_with_len}
use Rattle.latest_writes.specs.declared.range.PutRange.{PutRange}
use Rattle.latest_writes.specs.Puts.{is_put}
use Rattle.latest_writes.specs.Ranges.{touch_at}
use Rattle.latest_writes.specs.Resolved.{ResolvedTouches}
use Rattle.latest_writes.proofs.BlocksToCopy.{counted_is, counted_puts}
use Rattle.latest_writes.proofs.latest_writes.LastTouches.blocks_to_copy.Goals as goal

pub returns : goal.returns
returns c =
    let inside = c.self.inside in
    let known = c.self.invariant in
    let copies = known.copies_are ∙ ap (λ (l : List PutRange). sum_by (λ (put : PutRange). put.blocks) l) known.puts_are
    ∙ sym (counted_puts 0 inside.blocks inside.blocks inside.ranges.items known.apart (omega arith)) ∙ counted_is _ 0 inside.blocks in
    let P : ResolvedTouches → Type 0 = λ touches. inside.blocks_to_copy ≡ count_by (λ block. is_put (touch_at block touches.ranges)) (range_with_len 0 touches.blocks) in
    subst P c.self.view_is copies
