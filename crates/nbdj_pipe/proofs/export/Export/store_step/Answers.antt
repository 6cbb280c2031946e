use Rattle.std.proofs.Common.{List, [], ◌∷◌, ap, sym, subst, ◌∙◌}
use Rattle.export_steps.specs.Life.{Trusts}
use Rattle.nbdj_pipe.specs.inner.Export.{Follows}
use Rattle.nbdj_pipe.specs.Talk.{spoken}
use Rattle.nbdj_pipe.proofs.Steps.{last_same, still_step}
use Rattle.export_model.specs.declared.event.Event.{Event}
use Rattle.export_model.specs.Step.{after_step}
use Rattle.nbdj_pipe.proofs.export.Export.store_step.Goals as goal

pub returns-clause-world : goal.returns-clause-world
returns-clause-world g c = λ world trusted of.
    let old = c.args.self.now.keeper in
    let new = c.step.new.self.keeper in
    let done = c.step.ensures.world world trusted of in
    let next = after_step world c.args.step done.0 in
    let still = still_step world c.args.step done.0 c.requires.storing in
    let same = last_same world.log c.step.result still.1.0 (sym done.1 ∙ still.1.1) in
    let quiet = ap (λ (e : Event). spoken (e ∷ [])) same ∙ still.1.2 in (
      done.0,
      record {
        follows = subst (λ (said : List Event). Follows world next said c.step.new.self.order new (g.D.Disk.faults new.disk) c.step.new.self.connections
            (Trusts trusted (g.D.Disk.honest new.disk)) (g.D.Disk.state old.disk) (g.D.Disk.state new.disk)) quiet done.2;
        connections_are = still.0;
      },
      done.1,
    )
