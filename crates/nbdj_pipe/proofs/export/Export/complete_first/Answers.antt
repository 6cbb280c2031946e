use Rattle.std.proofs.Common.{[], ◌∷◌, refl, ◌∙◌}
use Rattle.export_model.specs.declared.step.Step.TheVariants.{Map, Finish}
use Rattle.export_model.specs.Step.{finish, write_map}
use Rattle.nbdj_pipe.specs.Causes.{HasCause}
use Rattle.nbdj_pipe.specs.inner.Refusals.{IsOfExport}
use Rattle.nbdj_pipe.proofs.Causes.{cause_behind, if_error, if_matched}
use Rattle.nbdj_pipe.proofs.Checkpoints.{finish_shown}
use Rattle.nbdj_pipe.proofs.Steps.{settles_on}
use Rattle.nbdj_pipe.proofs.export.Export.complete_first.Goals as goal

pub returns-in_err-copy_all : goal.returns-in_err-copy_all
returns-in_err-copy_all g c = record {
  group = c.copy_all.ensures.group;
  extent = c.copy_all.ensures.extent;
  honest = c.copy_all.ensures.honest;
  early = if_error IsOfExport c.in_err-copy_all.field-0.0 c.from_residual.result c.from_residual.ensures.1 c.in_err-copy_all.ensures.early;
  world = λ world trusted of.
      let first = c.in_err-copy_all.ensures.world world trusted of in (
        first.0,
        first.1,
        if_matched _ (λ refusal. HasCause refusal world first.0) c.in_err-copy_all.field-0.0 c.from_residual.result c.from_residual.ensures.1 first.2,
      );
}

pub returns-in_err-checkpoint_step : goal.returns-in_err-checkpoint_step
returns-in_err-checkpoint_step g c = record {
  group = c.checkpoint_step.ensures.group;
  extent = c.checkpoint_step.ensures.extent ∙ c.copy_all.ensures.extent;
  honest = (λ is. c.copy_all.ensures.honest.0 (c.checkpoint_step.ensures.honest.0 is), λ is. c.checkpoint_step.ensures.honest.1 (c.copy_all.ensures.honest.1 is));
  early = if_error IsOfExport c.in_err-checkpoint_step.field-0.0 c.from_residual-in_err-checkpoint_step.result c.from_residual-in_err-checkpoint_step.ensures.1 c.in_err-checkpoint_step.ensures.early;
  world = λ world trusted of.
      let disk = g.D.Disk in
      let one = c.copy_all.new.self in
      let two = c.checkpoint_step.new.self in
      let first = c.in_ok-copy_all.ensures.world world trusted of in
      let second = c.in_err-checkpoint_step.ensures.world first.0 trusted first.1.follows.leads.of_export in
      let mapped = write_map second.0 first.0 in (
        mapped,
        settles_on disk.state disk.faults disk.honest c.leads_law.ensures world first.0 mapped trusted one.order two.order one.keeper two.keeper one.connections two.connections c.args.self.now.keeper.disk
            c.checkpoint_step.ensures.honest.0 first.1 second.1,
        if_matched _ (λ refusal. HasCause refusal world mapped) c.in_err-checkpoint_step.field-0.0 c.from_residual-in_err-checkpoint_step.result c.from_residual-in_err-checkpoint_step.ensures.1
            (cause_behind c.in_err-checkpoint_step.field-0.0 world first.0 mapped first.1.follows.steps first.1.follows.leads.run second.2),
      );
}

pub returns : goal.returns
returns g c = record {
  group = c.checkpoint_step-2.ensures.group;
  extent = c.checkpoint_step-2.ensures.extent ∙ (c.checkpoint_step.ensures.extent ∙ c.copy_all.ensures.extent);
  honest = (λ is. c.copy_all.ensures.honest.0 (c.checkpoint_step.ensures.honest.0 (c.checkpoint_step-2.ensures.honest.0 is)), λ is. c.checkpoint_step-2.ensures.honest.1 (c.checkpoint_step.ensures.honest.1 (c.copy_all.ensures.honest.1 is)));
  early = c.checkpoint_step-2.ensures.early;
  world = λ world trusted of.
      let disk = g.D.Disk in
      let law = c.leads_law.ensures in
      let grows = c.schedule_law.ensures.grows in
      let one = c.copy_all.new.self in
      let two = c.checkpoint_step.new.self in
      let three = c.checkpoint_step-2.new.self in
      let first = c.in_ok-copy_all.ensures.world world trusted of in
      let second = c.in_ok-checkpoint_step.ensures.world first.0 trusted first.1.follows.leads.of_export in
      let mapped = write_map second.0 first.0 in
      let third = c.checkpoint_step-2.ensures.world mapped trusted second.1.follows.leads.of_export in
      let last = finish third.0 mapped in
      let so_far = settles_on disk.state disk.faults disk.honest law world first.0 mapped trusted one.order two.order one.keeper two.keeper one.connections two.connections c.args.self.now.keeper.disk
      c.checkpoint_step.ensures.honest.0 first.1 second.1 in (
        last,
        settles_on disk.state disk.faults disk.honest law world mapped last trusted two.order three.order two.keeper three.keeper two.connections three.connections c.args.self.now.keeper.disk
            c.checkpoint_step-2.ensures.honest.0 so_far third.1,
        finish_shown world first.0 second.0 third.0 so_far.follows.steps c.checkpoint_step-2.result so_far.follows.leads.run first.2
            (grows first.0 mapped (Map ∷ []) (second.0, refl)).stopped (grows mapped last (Finish ∷ []) (third.0, refl)).stopped second.2 third.2,
      );
}
