use Rattle.std.proofs.Common.{[], ◌∷◌, refl, ◌∙◌}
use Rattle.export_model.specs.declared.step.Step.TheVariants.{Rotate, Clean}
use Rattle.export_model.specs.Step.{clean, rotate}
use Rattle.nbdj_pipe.specs.Causes.{HasCause}
use Rattle.nbdj_pipe.specs.inner.Refusals.{IsOfExport}
use Rattle.nbdj_pipe.proofs.Causes.{cause_behind, if_error, if_matched}
use Rattle.nbdj_pipe.proofs.Checkpoints.{emptied_as}
use Rattle.nbdj_pipe.proofs.Steps.{settles_on}
use Rattle.nbdj_pipe.proofs.export.Export.checkpoint.Goals as goal

pub returns-in_err-complete_checkpoint : goal.returns-in_err-complete_checkpoint
returns-in_err-complete_checkpoint g c = record {
  group = c.complete_checkpoint.ensures.group;
  extent = c.complete_checkpoint.ensures.extent;
  honest = c.complete_checkpoint.ensures.honest;
  early = if_error IsOfExport c.in_err-complete_checkpoint.field-0.0 c.from_residual.result c.from_residual.ensures.1 c.in_err-complete_checkpoint.ensures.early;
  world = λ world trusted of.
      let first = c.in_err-complete_checkpoint.ensures.world world trusted of in (
        first.0,
        first.1,
        if_matched _ (λ refusal. HasCause refusal world first.0) c.in_err-complete_checkpoint.field-0.0 c.from_residual.result c.from_residual.ensures.1 first.2,
      );
}

pub returns-in_err-checkpoint_step : goal.returns-in_err-checkpoint_step
returns-in_err-checkpoint_step g c = record {
  group = c.checkpoint_step.ensures.group;
  extent = c.checkpoint_step.ensures.extent ∙ c.complete_checkpoint.ensures.extent;
  honest = (λ is. c.complete_checkpoint.ensures.honest.0 (c.checkpoint_step.ensures.honest.0 is), λ is. c.checkpoint_step.ensures.honest.1 (c.complete_checkpoint.ensures.honest.1 is));
  early = if_error IsOfExport c.in_err-checkpoint_step.field-0.0 c.from_residual-in_err-checkpoint_step.result c.from_residual-in_err-checkpoint_step.ensures.1 c.in_err-checkpoint_step.ensures.early;
  world = λ world trusted of.
      let disk = g.D.Disk in
      let one = c.complete_checkpoint.new.self in
      let two = c.checkpoint_step.new.self in
      let first = c.in_ok-complete_checkpoint.ensures.world world trusted of in
      let second = c.in_err-checkpoint_step.ensures.world first.0 trusted first.1.follows.leads.of_export in
      let turned = rotate second.0 first.0 in (
        turned,
        settles_on disk.state disk.faults disk.honest c.leads_law.ensures world first.0 turned trusted one.order two.order one.keeper two.keeper one.connections two.connections c.args.self.now.keeper.disk
            c.checkpoint_step.ensures.honest.0 first.1 second.1,
        if_matched _ (λ refusal. HasCause refusal world turned) c.in_err-checkpoint_step.field-0.0 c.from_residual-in_err-checkpoint_step.result c.from_residual-in_err-checkpoint_step.ensures.1
            (cause_behind c.in_err-checkpoint_step.field-0.0 world first.0 turned first.1.follows.steps first.1.follows.leads.run second.2),
      );
}

pub returns-in_err-complete_checkpoint-2 : goal.returns-in_err-complete_checkpoint-2
returns-in_err-complete_checkpoint-2 g c = record {
  group = c.complete_checkpoint-2.ensures.group;
  extent = c.complete_checkpoint-2.ensures.extent ∙ (c.checkpoint_step.ensures.extent ∙ c.complete_checkpoint.ensures.extent);
  honest = (λ is. c.complete_checkpoint.ensures.honest.0 (c.checkpoint_step.ensures.honest.0 (c.complete_checkpoint-2.ensures.honest.0 is)), λ is. c.complete_checkpoint-2.ensures.honest.1 (c.checkpoint_step.ensures.honest.1 (c.complete_checkpoint.ensures.honest.1 is)));
  early = if_error IsOfExport c.in_err-complete_checkpoint-2.field-0.0 c.from_residual-in_err-complete_checkpoint-2.result c.from_residual-in_err-complete_checkpoint-2.ensures.1 c.in_err-complete_checkpoint-2.ensures.early;
  world = λ world trusted of.
      let disk = g.D.Disk in
      let law = c.leads_law.ensures in
      let one = c.complete_checkpoint.new.self in
      let two = c.checkpoint_step.new.self in
      let three = c.complete_checkpoint-2.new.self in
      let first = c.in_ok-complete_checkpoint.ensures.world world trusted of in
      let second = c.in_ok-checkpoint_step.ensures.world first.0 trusted first.1.follows.leads.of_export in
      let turned = rotate second.0 first.0 in
      let so_far = settles_on disk.state disk.faults disk.honest law world first.0 turned trusted one.order two.order one.keeper two.keeper one.connections two.connections c.args.self.now.keeper.disk
      c.checkpoint_step.ensures.honest.0 first.1 second.1 in
      let third = c.in_err-complete_checkpoint-2.ensures.world turned trusted second.1.follows.leads.of_export in (
        third.0,
        settles_on disk.state disk.faults disk.honest law world turned third.0 trusted two.order three.order two.keeper three.keeper two.connections three.connections c.args.self.now.keeper.disk
            c.complete_checkpoint-2.ensures.honest.0 so_far third.1,
        if_matched _ (λ refusal. HasCause refusal world third.0) c.in_err-complete_checkpoint-2.field-0.0 c.from_residual-in_err-complete_checkpoint-2.result c.from_residual-in_err-complete_checkpoint-2.ensures.1
            (cause_behind c.in_err-complete_checkpoint-2.field-0.0 world turned third.0 so_far.follows.steps so_far.follows.leads.run third.2),
      );
}

pub returns : goal.returns
returns g c = record {
  group = c.store_step.ensures.group;
  extent = c.store_step.ensures.extent ∙ (c.complete_checkpoint-2.ensures.extent ∙ (c.checkpoint_step.ensures.extent ∙ c.complete_checkpoint.ensures.extent));
  honest = (λ is. c.complete_checkpoint.ensures.honest.0 (c.checkpoint_step.ensures.honest.0 (c.complete_checkpoint-2.ensures.honest.0 (c.store_step.ensures.honest.0 is))), λ is. c.store_step.ensures.honest.1 (c.complete_checkpoint-2.ensures.honest.1 (c.checkpoint_step.ensures.honest.1 (c.complete_checkpoint.ensures.honest.1 is))));
  early = tt;
  world = λ world trusted of.
      let disk = g.D.Disk in
      let law = c.leads_law.ensures in
      let grows = c.schedule_law.ensures.grows in
      let one = c.complete_checkpoint.new.self in
      let two = c.checkpoint_step.new.self in
      let three = c.complete_checkpoint-2.new.self in
      let four = c.store_step.new.self in
      let first = c.in_ok-complete_checkpoint.ensures.world world trusted of in
      let done = first.1.follows.leads.of_export in
      let second = c.in_ok-checkpoint_step.ensures.world first.0 trusted done in
      let turned = rotate second.0 first.0 in
      let third = c.in_ok-complete_checkpoint-2.ensures.world turned trusted second.1.follows.leads.of_export in
      let fourth = c.store_step.ensures.world third.0 trusted third.1.follows.leads.of_export in
      let cleaned = clean third.0 in
      let so_far = settles_on disk.state disk.faults disk.honest law world first.0 turned trusted one.order two.order one.keeper two.keeper one.connections two.connections c.args.self.now.keeper.disk
      c.checkpoint_step.ensures.honest.0 first.1 second.1 in
      let on = settles_on disk.state disk.faults disk.honest law world turned third.0 trusted two.order three.order two.keeper three.keeper two.connections three.connections c.args.self.now.keeper.disk
      c.complete_checkpoint-2.ensures.honest.0 so_far third.1 in
      let clean_stays = (grows third.0 cleaned (Clean ∷ []) (fourth.0, refl)).stopped in
      let finish_stays = (grows turned third.0 third.1.follows.steps third.1.follows.leads.run).stopped in
      let rotate_stays = (grows first.0 turned (Rotate ∷ []) (second.0, refl)).stopped in (
        cleaned,
        settles_on disk.state disk.faults disk.honest law world third.0 cleaned trusted three.order four.order three.keeper four.keeper three.connections four.connections c.args.self.now.keeper.disk
            c.store_step.ensures.honest.0 on fourth.1,
        emptied_as world first.0 second.0 (c.schedule_law.ensures.within first.0 done.reached) first.2 third.0 third.2
            (λ is. clean_stays (finish_stays (rotate_stays is))) (λ is. clean_stays (finish_stays is)) clean_stays second.2,
      );
}
