use Rattle.std.proofs.Common.{◌≡◌, inl, inr, ◌≤◌, ◌+◌, ◌*◌, ◌-◌, ◌∙◌, ap, sym, ℕ, List, length, get_or, arith, rules}
use Rattle.std.proofs.lemmas.Bool.{cases_lt}
use Rattle.std.proofs.lemmas.List.{places}
use borrow.Rule.Slice.PartMut.{put_mid}
use Rattle.order_book.proofs.BlocksWrittenToSlice.{below, size_kept, some_same, some_there, within}
use Rattle.shared_cache.specs.Cache.{bytes_seen}
use Rattle.order_book.proofs.reading.read_in_memory.Goals as goal

pub loop-block-preserved : goal.loop-block-preserved
loop-block-preserved c =
    let old = c.loop-block.invariant in
    let into = c.loop-block.into in
    let bytes = c.copy_from_slice.new.self in
    let block = c.loop-block.block in
    let a = 4096 * block in
    let size : length into ≡ length c.args.into.now = old.size in
    let room : a + 4096 ≤ length into = omega arith in
    let long : length bytes ≡ 4096 = c.copy_from_slice.ensures.len ∙ search (rules, places) in
    let here = c.in-Some.ensures in
    record {
      size = size_kept into bytes a (a + 4096) (omega arith) room (omega (arith, long)) ∙ size;
      kept = λ k less. below into bytes a (a + 4096) k (omega (arith, less)) (omega (arith, room)) ∙ old.kept k less;
      held = λ j k given from less inside seen. elim (cases_lt j block) [
        | inl l ↦ below into bytes a (a + 4096) (4096 * j + k) (omega (arith, l, inside)) (omega (arith, room)) ∙ old.held j k given from l inside seen
        | inr m ↦
            let at : block ≡ j = omega (arith, m, less) in
            ap (λ (n : ℕ). get_or (put_mid a (a + 4096 - a) into bytes) (4096 * n + k) 0) (sym at)
            ∙ within into bytes a (a + 4096) k (omega (arith, room)) (omega (arith, inside, long))
            ∙ ap (λ (l : List ℕ). get_or l k 0) (c.copy_from_slice.ensures.after ∙ some_same _ _ given here (ap (λ (n : ℕ). bytes_seen c.args.cache.now (c.args.first + n)) at ∙ seen))
      ];
      there = λ j from less none. elim (cases_lt j block) [
        | inl l ↦ old.there j from l none
        | inr m ↦
            let at : block ≡ j = omega (arith, m, less) in
            some_there _ _ here (ap (λ (n : ℕ). bytes_seen c.args.cache.now (c.args.first + n)) at ∙ none)
      ];
    }
