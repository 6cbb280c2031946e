use Rattle.std.proofs.Common.{◌≢◌, ⊎_elim, ◌<◌, length, sym, ap, ◌∙◌, arith, below_more}
use Rattle.std.proofs.lemmas.Bool.{cases_lt}
use Rattle.std.proofs.lemmas.List.{get_or-set_other, get_or-set_same, get_or_default}
use Rattle.std.proofs.Math.ListN.{get_or-eq_default}
use Rattle.image_model.specs.declared.command.Kind.{Kind}
use Rattle.image_model.specs.Edit.{edit_of, kind_edited}
use Rattle.image_model.specs.laws.Edits.{kind_behind}
use Rattle.plain_image.proofs.plain_image.set_kinds.Goals as goal

pub loop-block-preserved : goal.loop-block-preserved
loop-block-preserved c =
    let block = c.loop-block.block in
    let lt : block < length c.loop-block.kinds = omega arith in record {
      done = below_more _ _
          (λ k h. let ne : k ≢ block = omega arith in rw get_or-set_other (c.loop-block.invariant.done k h))
          (rw get_or-set_same
          (c.kind_after.ensures
          ∙ ap (λ (kind : Kind). kind_edited (edit_of c.args.edit.now) block kind)
          (get_or_default c.loop-block.kinds block Kind.Data Kind.Hole lt ∙ c.loop-block.invariant.same block (omega arith))));
      same = λ k h. let ne : k ≢ block = omega arith in rw get_or-set_other (c.loop-block.invariant.same k (omega arith));
    }

pub returns-clause-each : goal.returns-clause-each
returns-clause-each c block = ⊎_elim
    (λ below. c.loop-block.invariant.done block (omega arith))
    (λ behind. c.loop-block.invariant.same block (omega arith)
    ∙ get_or-eq_default c.args.kinds.now Kind.Hole behind
    ∙ sym (ap (λ (kind : Kind). kind_edited (edit_of c.args.edit.now) block kind) (get_or-eq_default c.args.kinds.now Kind.Hole behind)
    ∙ kind_behind (edit_of c.args.edit.now) block (omega arith)))
    (cases_lt block (length c.args.kinds.now))
