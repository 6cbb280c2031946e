use Rattle.std.proofs.Common.{◌≡◌, ◌-◌, ℕ, length, if◌then◌else◌}
use Rattle.image_model.specs.Image.{covers}
use Rattle.alloc_map.specs.Codes.{code_at}
use Rattle.alloc_map.proofs.codes.set_each.Given as goal

abbrev pub invariant-loop-block : goal.invariant-loop-block
invariant-loop-block l =
    (length l.bytes.items ≡ length l.initial.bytes.items)
    × ((q : ℕ) → code_at l.bytes.items q ≡ (if covers l.from (l.block - l.from) q then l.code else code_at l.initial.bytes.items q))
