-- commands of an order between two numbers, and the blocks that are dirty after one
use Rattle.std.proofs.Common.{◌≡◌, ℕ, ◌+◌, ◌-◌, ◌≤◌, List, ◌++◌, length, length-drop, take, drop, ap, ◌∙◌, arith}
use Rattle.std.proofs.lemmas.List.{drop-append-le, drop-drop, take-append-le}
use Rattle.std.proofs.Math.Seq.{take-add}
use Rattle.std.specs.FinMap.{len}
use Rattle.image_model.specs.Change.{Change}
use Rattle.image_model.specs.Dirty.{dirty_blocks}
use Rattle.export_model.specs.Checkpoint.{to_copy}

-- commands at the end of the order are none of those before
pub part_same : (base until : ℕ) (order more : List Change) → base ≤ until → until ≤ length order
    → take (until - base) (drop base (order ++ more)) ≡ take (until - base) (drop base order)
part_same base until order more above within =
    ap (take (until - base)) (drop-append-le base order more (omega (arith, above, within)))
    ∙ take-append-le (until - base) (drop base order) more (omega (arith, length-drop base order, within))

pub copied_same : (base until : ℕ) (order more : List Change) → base ≤ until → until ≤ length order → to_copy base until (order ++ more) ≡ to_copy base until order
copied_same base until order more above within = ap (λ (l : List Change). len (dirty_blocks base l)) (part_same base until order more above within)

-- the commands up to a later number are those up to an earlier one and those between the two
pub part_more : (base until further : ℕ) (order : List Change) → base ≤ until → until ≤ further
    → take (further - base) (drop base order) ≡ take (until - base) (drop base order) ++ take (further - until) (drop until order)
part_more base until further order above beyond =
    ap (λ (n : ℕ). take n (drop base order)) (let same : further - base ≡ (until - base) + (further - until) = omega (arith, above, beyond) in same)
    ∙ take-add (until - base) (further - until) (drop base order)
    ∙ ap (λ rest. take (until - base) (drop base order) ++ take (further - until) rest)
    (drop-drop (until - base) base order ∙ ap (λ (n : ℕ). drop n order) (let same : base + (until - base) ≡ until = omega (arith, above) in same))
