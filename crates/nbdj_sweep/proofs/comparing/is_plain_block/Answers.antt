use Rattle.std.proofs.Common.{rules, ◌≡◌, ◌∙◌, ◌+◌, ◌*◌, ◌<◌, ℕ, List, length, slice_index, slice_index_or, sym, ap, arith}
use Rattle.std.proofs.lemmas.List.{get_or-replicate, get_or_default}
use Rattle.std.proofs.lemmas.Result.{IfOk-from_err}
use Rattle.image_model.specs.declared.command.Kind.{Kind}
use Rattle.image_model.specs.declared.command.Kind.TheVariants.{Data, Hole}
use Rattle.nbdj_sweep.proofs.Blocks.{not_so}
use Rattle.nbdj_sweep.proofs.comparing.is_plain_block.Goals as goal

pub block_bytes-requires-clause-zero : goal.block_bytes-requires-clause-zero
block_bytes-requires-clause-zero g c = λ k small. get_or-replicate 4096 k 0 0 small

pub returns-in_err-block_bytes : goal.returns-in_err-block_bytes
returns-in_err-block_bytes g c =
    let none = c.from_residual.ensures.0 in
    record {
      ok = IfOk-from_err c.from_residual.result _ none;
      extent = c.block_bytes.ensures.extent;
      honest = c.block_bytes.ensures.honest;
      held = λ is image holds. IfOk-from_err c.from_residual.result _ none;
      exact = λ is image holds kind. IfOk-from_err c.from_residual.result _ none;
    }

pub returns-then-same_kind : goal.returns-then-same_kind
returns-then-same_kind g c = record {
  ok = c.in_ok-block_bytes.ensures.ok;
  extent = c.block_bytes.ensures.extent;
  honest = c.block_bytes.ensures.honest;
  held = c.in_ok-block_bytes.ensures.held;
  exact = λ honest image holds is.
      let read = c.in_ok-block_bytes.ensures.bytes honest image holds is in
      let all = c.bytes.ensures in
      let size : length c.block_bytes.new.into ≡ 4096 = search rules in
      let kind : slice_index_or c.args.plain.now.kinds c.args.block Hole ≡ image.kind c.args.block =
      get_or_default c.args.plain.now.kinds c.args.block Hole Data (omega (arith, c.requires.inside, c.requires.kinds))
      ∙ ap (λ (kinds : List Kind). slice_index_or kinds c.args.block Data) (sym c.kinds.ensures) ∙ c.is_same-same_kind.ensures.0 c.if-same_kind.true ∙ is in (
        λ yes. record {
          kind = kind;
          bytes = λ k small. ap (λ (bytes : List ℕ). slice_index bytes (4096 * c.args.block + k)) (sym all) ∙ c.has_bytes.ensures.0 yes k (omega (arith, small, size)) ∙ read k small;
        },
        λ plain. c.has_bytes.ensures.1 (λ k small.
            let within : k < 4096 = omega (arith, small, size) in
            ap (λ (bytes : List ℕ). slice_index bytes (4096 * c.args.block + k)) all ∙ plain.bytes k within ∙ sym (read k within)),
      );
}

pub returns-else-same_kind : goal.returns-else-same_kind
returns-else-same_kind g c = record {
  ok = c.in_ok-block_bytes.ensures.ok;
  extent = c.block_bytes.ensures.extent;
  honest = c.block_bytes.ensures.honest;
  held = c.in_ok-block_bytes.ensures.held;
  exact = λ honest image holds is. (
    λ yes. absurd (not_so c.is_same-same_kind.result c.if-same_kind.false yes),
    λ plain. c.is_same-same_kind.ensures.1 (ap (λ (kinds : List Kind). slice_index_or kinds c.args.block Data) c.kinds.ensures
        ∙ sym (get_or_default c.args.plain.now.kinds c.args.block Hole Data (omega (arith, c.requires.inside, c.requires.kinds))) ∙ plain.kind ∙ sym is),
  );
}
