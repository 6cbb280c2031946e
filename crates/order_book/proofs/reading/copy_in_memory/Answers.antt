use Rattle.std.proofs.Common.{◌≡◌, inl, inr, ◌≤◌, ◌<◌, ◌+◌, ◌-◌, ◌/◌, ◌%◌, ◌∙◌, ◌++◌, ap, sym, ℕ, List, length, get_or, arith, rules}
use Rattle.std.proofs.lemmas.Bool.{cases_lt}
use Rattle.std.proofs.lemmas.List.{places}
use borrow.Rule.Slice.PartMut.{mid_of}
use Rattle.order_book.proofs.BlocksInMemory.{lacks_at}
use Rattle.order_book.proofs.BlocksWrittenToSlice.{some_same, some_there}
use Rattle.shared_cache.specs.Cache.{bytes_seen}
use Rattle.order_book.proofs.reading.copy_in_memory.Goals as goal

front : (xs ys : List ℕ) (k : ℕ) → k < length xs → get_or (xs ++ ys) k 0 ≡ get_or xs k 0
front xs ys k less = search (rules, places)

back : (xs block : List ℕ) (a n k : ℕ) → length xs ≤ k → k < length xs + n → a + n ≤ length block → get_or (xs ++ mid_of a n block) k 0 ≡ get_or block (a + (k - length xs)) 0
back xs block a n k more less inside = search (rules, places)

pub unreachable-requires : goal.unreachable-requires
unreachable-requires c =
    let n = c.len-in-loop-bytes.result in
    let offset = c.args.offset in
    let below : n < c.args.count = omega (arith, c.len-in-loop-bytes.ensures, c.len.ensures, c.loop-bytes-test.true) in
    let at : offset / 4096 + ((offset + n) / 4096 - offset / 4096) ≡ (offset + n) / 4096 = omega arith in
    c.requires.held (lacks_at c.args.cache.now (offset / 4096) ((offset % 4096 + c.args.count + 4095) / 4096) ((offset + n) / 4096 - offset / 4096) (omega (arith, below))
    (ap (λ (b : ℕ). bytes_seen c.args.cache.now b) at ∙ sym c.in_default.ensures))

pub loop-bytes-preserved : goal.loop-bytes-preserved
loop-bytes-preserved c =
    let old = c.loop-bytes.invariant in
    let bytes = c.loop-bytes.bytes in
    let block = c.in-Some.block.now in
    let offset = c.args.offset in
    let n = c.len-in-loop-bytes.result in
    let from = (offset + n) % 4096 in
    let to = c.min-to.result in
    let more = c.in_ok-extend_from_slice.ensures in
    let size : n ≡ length bytes.items = c.len-in-loop-bytes.ensures ∙ bytes.ok.0 in
    let same : n ≡ bytes.len = c.len-in-loop-bytes.ensures in
    let whole : length block ≡ 4096 = search (rules, places) in
    let below : n < c.args.count = omega (arith, c.len-in-loop-bytes.ensures, c.len.ensures, c.loop-bytes-test.true) in
    let again : c.len-in-loop-bytes-2.result ≡ n = c.len-in-loop-bytes-2.ensures ∙ sym c.len-in-loop-bytes.ensures in
    let order : from ≤ to = omega (arith, c.min-to.ensures, again, below) in
    let short : to ≤ 4096 = omega (arith, c.min-to.ensures) in
    let fits : n + (to - from) ≤ c.args.count = omega (arith, c.min-to.ensures, again, below) in
    let long : length (mid_of from (to - from) block) ≡ to - from = search (rules, places, order, short, whole) in
    let grown : c.extend_from_slice.new.self.len ≡ n + (to - from) = omega (arith, more.len, long, same) in
    record {
      long = omega (arith, grown, fits);
      room = omega (arith, old.room, more.capacity);
      there = λ k less none. elim (cases_lt k n) [
        | inl l ↦ old.there k (omega (arith, l, same)) none
        | inr m ↦
            let at : (offset + n) / 4096 ≡ (offset + k) / 4096 = omega (arith, m, less, grown, order, short) in
            some_there _ _ c.in-Some.ensures (ap (λ (b : ℕ). bytes_seen c.args.cache.now b) at ∙ none)
      ];
      same = λ k given less seen. ap (λ (l : List ℕ). get_or l k 0) more.items ∙ elim (cases_lt k n) [
        | inl l ↦ front bytes.items _ k (omega (arith, l, size)) ∙ old.same k given (omega (arith, l, same)) seen
        | inr m ↦
            let at : (offset + n) / 4096 ≡ (offset + k) / 4096 = omega (arith, m, less, grown, order, short) in
            let place : from + (k - length bytes.items) ≡ (offset + k) % 4096 = omega (arith, m, less, grown, order, short, size) in
            back bytes.items block from (to - from) k (omega (arith, m, size)) (omega (arith, less, grown, size)) (omega (arith, order, short, whole))
            ∙ ap (λ (p : ℕ). get_or block p 0) place
            ∙ ap (λ (l : List ℕ). get_or l ((offset + k) % 4096) 0) (some_same _ _ given c.in-Some.ensures (ap (λ (b : ℕ). bytes_seen c.args.cache.now b) at ∙ seen))
      ];
    }
