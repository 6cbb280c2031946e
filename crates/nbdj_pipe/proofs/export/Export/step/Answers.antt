use Rattle.std.proofs.Common.{[], ◌∷◌, ap, refl, ◌∙◌}
use Rattle.export_model.specs.Step.{after_step}
use Rattle.nbdj_pipe.specs.Talk.{spoken}
use Rattle.nbdj_pipe.proofs.Steps.{spoken_on}
use Rattle.nbdj_pipe.proofs.export.Export.step.Goals as goal

pub returns-clause-world : goal.returns-clause-world
returns-clause-world g c = λ world trusted of.
    let old = c.args.self.now.keeper in
    let new = c.take_step.new.keeper in
    let step = c.args.step in
    let taken = c.take_step.ensures.world world trusted of in
    let next = after_step world step taken.0 in
    let leads = c.leads_law.ensures.one world trusted step taken.0 c.take_step.result c.take_step.new.order new c.take_step.new.connections old.disk of.reached taken.1 in (
      taken.0,
      taken.1.log,
      record {
        steps = step ∷ [];
        leads = leads;
        said_is = ap spoken taken.1.log ∙ spoken_on world.log (c.take_step.result ∷ []);
        setting = (c.schedule_law.ensures.grows world next (step ∷ []) (taken.0, refl)).setting;
      },
    )
