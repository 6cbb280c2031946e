use Rattle.std.proofs.Common.{◌≡◌, ◌∙◌, ◌++◌, ◌-◌, ◌+◌, ◌*◌, max, min, ap, append_assoc, length, length-drop, List, ℕ, sym, take, drop, replicate}
use Rattle.std.proofs.Math.Seq.{take-length}
use Rattle.order_book.proofs.edits.push_zeroed.Goals as goal

-- all of a list from a place on
rest_of : (l : List ℕ) (from : ℕ) → take (length l - from) (drop from l) ≡ drop from l
rest_of l from = ap (λ (n : ℕ). take n (drop from l)) (sym (length-drop from l)) ∙ take-length (drop from l)

pub returns : goal.returns
returns c =
    let all = c.args.all.now.items in
    let old = c.args.old.now in
    let start = 4096 * c.args.block in
    let from = max c.args.offset start - start in
    let to = min (c.args.offset + c.args.count) (start + 4096) - start in
    let from_is : c.max.result - start ≡ from = ap (λ (n : ℕ). n - start) c.max.ensures in
    let to_is : c.min.result - start ≡ to = ap (λ (n : ℕ). n - start) c.min.ensures in
    let zeros_are : c.zeros.result.now ≡ replicate (to - from) 0 = c.zeros.ensures ∙ (λ i. replicate (to_is i - from_is i) 0) in
    let one : c.extend_from_slice.new.self.items ≡ all ++ take from old = c.in_ok-extend_from_slice.ensures.items ∙ ap (λ (n : ℕ). all ++ take n old) from_is in
    let two : c.extend_from_slice-2.new.self.items ≡ c.extend_from_slice.new.self.items ++ replicate (to - from) 0 =
    c.in_ok-extend_from_slice-2.ensures.items ∙ ap (λ (l : List ℕ). c.extend_from_slice.new.self.items ++ l) zeros_are in
    let three : c.extend_from_slice-3.new.self.items ≡ c.extend_from_slice-2.new.self.items ++ drop to old =
    c.in_ok-extend_from_slice-3.ensures.items
    ∙ ap (λ (l : List ℕ). c.extend_from_slice-2.new.self.items ++ l) (rest_of old (c.min.result - start))
    ∙ ap (λ (n : ℕ). c.extend_from_slice-2.new.self.items ++ drop n old) to_is in
    three ∙ ap (λ (l : List ℕ). l ++ drop to old) (two ∙ ap (λ (l : List ℕ). l ++ replicate (to - from) 0) one ∙ append_assoc all (take from old) (replicate (to - from) 0))
    ∙ append_assoc all (take from old ++ replicate (to - from) 0) (drop to old)
