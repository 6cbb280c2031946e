use Rattle.std.proofs.Common.{List, sym, subst}
use Rattle.std.proofs.lemmas.Result.{IfOk-weaker}
use Rattle.latest_writes.specs.declared.range.LastRange.{LastRange}
use Rattle.latest_writes.specs.Ranges.{AreLastTouches}
use Rattle.latest_writes.proofs.Halves.{laid_halves}
use Rattle.latest_writes.proofs.latest_writes.+resolved.Goals as goal

pub returns : goal.returns
returns t c =
    let one = subst (λ (l : List LastRange). AreLastTouches c.args.from c.args.blocks c.split_at.result.0.now l) (sym c.deref.ensures.value) c.in_ok-older.ensures in
    let two = subst (λ (l : List LastRange). AreLastTouches c.args.from c.args.blocks c.split_at.result.1.now l) (sym c.deref-2.ensures.value) c.in_ok-newer.ensures in
    IfOk-weaker c.overlay.result _ _ (λ ranges laid. laid_halves c.args.from c.args.blocks c.args.touched.now _ _ _ _ ranges.items (sym c.split_at.ensures.by_index.0) one two laid) c.overlay.ensures
