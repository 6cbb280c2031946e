use Rattle.std.proofs.Common.{refl}
use Rattle.export_model.specs.Step.{after_step}
use Rattle.nbdj_pipe.proofs.Checkpoints.{turn_shown}
use Rattle.nbdj_pipe.proofs.export.Export.checkpoint_step.Goals as goal

pub returns-clause-world : goal.returns-clause-world
returns-clause-world g c = λ world trusted of.
    let done = c.store_step-event.ensures.world world trusted of in
    let next = after_step world c.args.step done.0 in (
      done.0,
      done.1,
      turn_shown world next c.args.step c.store_step-event.result c.goes_on_after-goes_on.result (done.0, refl) c.requires.storing done.2 c.goes_on_after-goes_on.ensures,
    )
