use Rattle.std.proofs.Common.{◌∙◌, ap, arith, subst}
use Rattle.export.specs.Submits.{IsFlushAnswered}
use Rattle.marks.specs.Known.{PassState}
use Rattle.marks.specs.laws.Beginnings.{prefix_trans}
use Rattle.export.proofs.export.Export.flush.Goals as goal

pub returns-clause-flushed : goal.returns-clause-flushed
returns-clause-flushed g c =
    let looked = c.look_accepted-last.ensures in let waited = c.wait_for.ensures in
    subst (λ (p : PassState). IsFlushAnswered p c.wait_for.new.pass c.wait_for.result) c.pass.view_is
    (record {
      answered = waited.answered;
      done = λ done. let reached = waited.done done in let known = looked.known in omega (arith, reached, known);
      own = waited.own ∙ ap (λ (p : PassState). p.own) looked.pass;
      lasts = let same = ap (λ (p : PassState). p.durable) looked.pass in let rest = waited.lasts in omega (arith, same, rest);
      knew = prefix_trans c.pass.inside.pass.history c.look_accepted-last.new.pass.history c.wait_for.new.pass.history looked.seen waited.knew;
    })

pub returns-clause-client : goal.returns-clause-client
returns-clause-client g c = c.wait_for.ensures.client ∙ (ap (λ (p : PassState). p.client) c.look_accepted-last.ensures.pass ∙ ap (λ (p : PassState). p.client) c.pass.view_is)
