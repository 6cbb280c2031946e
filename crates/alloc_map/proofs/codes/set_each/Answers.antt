use Rattle.std.proofs.Common.{ℕ, ◌≡◌, ◌/◌, ◌%◌, ◌<◌, nat_eq, if◌then◌else◌, length, slice_index, arith, rules, ap, subst, ◌∙◌}
use Rattle.std.proofs.lemmas.List.{get_or_default}
use Rattle.alloc_map.specs.laws.Coded.{HasCode, code_at-set, set_more}
use Rattle.alloc_map.proofs.codes.set_each.Goals as goal

pub loop-block-preserved : goal.loop-block-preserved
loop-block-preserved c =
    let block = c.loop-block.block in
    let items = c.loop-block.bytes.items in
    let there : block / 4 < length items = omega (arith, c.loop-block.invariant.0) in
    let byte : c.index.result.now ≡ slice_index items (block / 4) = c.index.ensures ∙ get_or_default items (block / 4) c.index.result.now 0 there in
    let has : HasCode (slice_index items (block / 4)) (block % 4) c.args.code c.with_code.result =
    subst (λ (b : ℕ). HasCode b (block % 4) c.args.code c.with_code.result) byte c.with_code.ensures in (
      search rules,
      λ q.
          code_at-set items block c.args.code c.with_code.result there has q
          ∙ ap (λ (old : ℕ). if nat_eq q block then c.args.code else old) (c.loop-block.invariant.1 q)
          ∙ set_more c.args.code c.args.from block q _ c.loop-block.auto.block,
    )
