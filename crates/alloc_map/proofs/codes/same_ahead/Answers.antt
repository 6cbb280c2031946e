use Rattle.std.proofs.Common.{◌≡◌, ◌+◌, ◌/◌, slice_index, arith, ap, ◌∙◌}
use Rattle.alloc_map.specs.laws.Coded.{code_in_bytes}
use Rattle.alloc_map.proofs.codes.same_ahead.Goals as goal

pub returns-then-is_word_of-clause-same : goal.returns-then-is_word_of-clause-same
returns-then-is_word_of-clause-same c =
    code_in_bytes c.args.bytes.now c.args.block 8 c.args.code c.requires.code (omega arith) (c.is_word_of.ensures c.if-is_word_of.true)

pub returns-then-bytes-at-clause-same : goal.returns-then-bytes-at-clause-same
returns-then-bytes-at-clause-same c =
    code_in_bytes c.args.bytes.now c.args.block 1 c.args.code c.requires.code (omega arith)
    (λ i below. let here : c.args.block / 4 + i ≡ c.args.block / 4 = omega arith in ap (slice_index c.args.bytes.now) here ∙ c.if-bytes-at.true)
