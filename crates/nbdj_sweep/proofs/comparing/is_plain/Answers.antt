use Rattle.std.proofs.Common.{rules, ◌≡◌, ◌∙◌, [], refl, sym, subst, ap, false, ⊎_elim}
use Rattle.std.proofs.lemmas.Bool.{false≢true}
use Rattle.std.proofs.lemmas.Result.{IfOk-from_err}
use Rattle.device_image.specs.Keeper.{KeeperState}
use Rattle.nbdj_sweep.specs.Plain.{IsPlainBlock}
use Rattle.nbdj_sweep.proofs.Blocks.{not_so, below_or_at}
use Rattle.nbdj_sweep.proofs.comparing.is_plain.Goals as goal

pub returns-then-not-branch : goal.returns-then-not-branch
returns-then-not-branch g c = record {
  extent = c.is_plain_block.ensures.extent ∙ c.loop-block.invariant.extent;
  exact = λ honest image holds.
      let i = c.loop-block.invariant in
      let kind_is = c.state.ensures ∙ c.in_ok-map.ensures.kinds image [] [] holds c.loop-block.block in
      let exact = c.in_ok-is_plain_block.ensures.exact (i.honest.1 honest) image (i.held honest image holds) kind_is in
      let blocks = holds.is_base.blocks in
      let differs : c.in_ok-is_plain_block.field-0 ≡ false = search rules in
      (λ no. absurd (false≢true no), λ plain. absurd (not_so c.in_ok-is_plain_block.field-0 differs (exact.1 (plain.same c.loop-block.block (search rules)))));
}

pub loop-block-preserved : goal.loop-block-preserved
loop-block-preserved g c =
    let i = c.loop-block.invariant in
    let new = c.is_plain_block.new.keeper in
    record {
      same = ◌∙◌ {b = record c.loop-block.keeper { disk = new.disk }} c.in_ok-is_plain_block.ensures.ok (ap (λ (keeper : KeeperState g.row.D.Denot). record keeper { disk = new.disk }) i.same);
      extent = c.is_plain_block.ensures.extent ∙ i.extent;
      honest = (λ is. i.honest.0 (c.is_plain_block.ensures.honest.0 is), λ is. c.is_plain_block.ensures.honest.1 (i.honest.1 is));
      held = λ is image holds. c.in_ok-is_plain_block.ensures.held (i.honest.1 is) image (i.held is image holds);
      before = λ is image holds block below.
          let kind_is = c.state.ensures ∙ c.in_ok-map.ensures.kinds image [] [] holds c.loop-block.block in
          let exact = c.in_ok-is_plain_block.ensures.exact (i.honest.1 is) image (i.held is image holds) kind_is in
          let this = exact.0 (search rules) in
          ⊎_elim (λ before. i.before is image holds block before) (λ at. subst (IsPlainBlock c.args.plain.now image) (sym at) this) (below_or_at block c.loop-block.block (search rules));
    }

pub returns : goal.returns
returns g c = record {
  extent = c.loop-block.invariant.extent;
  exact = λ honest image holds.
      let i = c.loop-block.invariant in
      let blocks = holds.is_base.blocks in (
        λ yes. record {
          blocks = search rules;
          size = search rules;
          same = λ block inside. i.before honest image holds block (search rules);
        },
        λ plain. refl,
      );
}

pub returns-in_err-map : goal.returns-in_err-map
returns-in_err-map g c = record { extent = refl; exact = λ honest image holds. IfOk-from_err c.from_residual.result _ c.from_residual.ensures.0 }

pub returns-in_err-is_plain_block : goal.returns-in_err-is_plain_block
returns-in_err-is_plain_block g c = record {
  extent = c.is_plain_block.ensures.extent ∙ c.loop-block.invariant.extent;
  exact = λ honest image holds. IfOk-from_err c.from_residual-in_err-is_plain_block.result _ c.from_residual-in_err-is_plain_block.ensures.0;
}
