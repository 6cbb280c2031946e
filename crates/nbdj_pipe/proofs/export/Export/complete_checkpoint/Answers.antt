use Rattle.std.proofs.Common.{◌∙◌, arith}
use Rattle.image_model.specs.laws.Layouts.{areas_most}
use Rattle.nbdj_pipe.specs.Causes.{HasCause}
use Rattle.nbdj_pipe.specs.inner.Refusals.{IsOfExport}
use Rattle.nbdj_pipe.proofs.Causes.{cause_behind, if_error, if_matched}
use Rattle.nbdj_pipe.proofs.Checkpoints.{all_shown}
use Rattle.nbdj_pipe.proofs.Steps.{settles_on}
use Rattle.nbdj_pipe.proofs.export.Export.complete_checkpoint.Goals as goal

pub returns-in_err-complete_first : goal.returns-in_err-complete_first
returns-in_err-complete_first g c = record {
  group = c.complete_first.ensures.group;
  extent = c.complete_first.ensures.extent;
  honest = c.complete_first.ensures.honest;
  early = if_error IsOfExport c.in_err-complete_first.field-0.0 c.from_residual.result c.from_residual.ensures.1 c.in_err-complete_first.ensures.early;
  world = λ world trusted of.
      let first = c.in_err-complete_first.ensures.world world trusted of in (
        first.0,
        first.1,
        if_matched _ (λ refusal. HasCause refusal world first.0) c.in_err-complete_first.field-0.0 c.from_residual.result c.from_residual.ensures.1 first.2,
      );
}

pub returns-in_err-complete_first-2 : goal.returns-in_err-complete_first-2
returns-in_err-complete_first-2 g c = record {
  group = c.complete_first-2.ensures.group;
  extent = c.complete_first-2.ensures.extent ∙ c.complete_first.ensures.extent;
  honest = (λ is. c.complete_first.ensures.honest.0 (c.complete_first-2.ensures.honest.0 is), λ is. c.complete_first-2.ensures.honest.1 (c.complete_first.ensures.honest.1 is));
  early = if_error IsOfExport c.in_err-complete_first-2.field-0.0 c.from_residual-in_err-complete_first-2.result c.from_residual-in_err-complete_first-2.ensures.1 c.in_err-complete_first-2.ensures.early;
  world = λ world trusted of.
      let disk = g.D.Disk in
      let one = c.complete_first.new.self in
      let two = c.complete_first-2.new.self in
      let first = c.in_ok-complete_first.ensures.world world trusted of in
      let second = c.in_err-complete_first-2.ensures.world first.0 trusted first.1.follows.leads.of_export in (
        second.0,
        settles_on disk.state disk.faults disk.honest c.leads_law.ensures world first.0 second.0 trusted one.order two.order one.keeper two.keeper one.connections two.connections c.args.self.now.keeper.disk
            c.complete_first-2.ensures.honest.0 first.1 second.1,
        if_matched _ (λ refusal. HasCause refusal world second.0) c.in_err-complete_first-2.field-0.0 c.from_residual-in_err-complete_first-2.result c.from_residual-in_err-complete_first-2.ensures.1
            (cause_behind c.in_err-complete_first-2.field-0.0 world first.0 second.0 first.1.follows.steps first.1.follows.leads.run second.2),
      );
}

pub returns : goal.returns
returns g c = record {
  group = c.complete_first-3.ensures.group;
  extent = c.complete_first-3.ensures.extent ∙ (c.complete_first-2.ensures.extent ∙ c.complete_first.ensures.extent);
  honest = (λ is. c.complete_first.ensures.honest.0 (c.complete_first-2.ensures.honest.0 (c.complete_first-3.ensures.honest.0 is)), λ is. c.complete_first-3.ensures.honest.1 (c.complete_first-2.ensures.honest.1 (c.complete_first.ensures.honest.1 is)));
  early = c.complete_first-3.ensures.early;
  world = λ world trusted of.
      let disk = g.D.Disk in
      let law = c.leads_law.ensures in
      let grows = c.schedule_law.ensures.grows in
      let one = c.complete_first.new.self in
      let two = c.complete_first-2.new.self in
      let three = c.complete_first-3.new.self in
      let first = c.in_ok-complete_first.ensures.world world trusted of in
      let second = c.in_ok-complete_first-2.ensures.world first.0 trusted first.1.follows.leads.of_export in
      let third = c.complete_first-3.ensures.world second.0 trusted second.1.follows.leads.of_export in
      let so_far = settles_on disk.state disk.faults disk.honest law world first.0 second.0 trusted one.order two.order one.keeper two.keeper one.connections two.connections c.args.self.now.keeper.disk
      c.complete_first-2.ensures.honest.0 first.1 second.1 in
      let behind = grows second.0 third.0 third.1.follows.steps third.1.follows.leads.run in
      let few = (c.schedule_law.ensures.within world of.reached).areas in
      let most = areas_most world.stage.setting.geometry.layout in (
        third.0,
        settles_on disk.state disk.faults disk.honest law world second.0 third.0 trusted two.order three.order two.keeper three.keeper two.connections three.connections c.args.self.now.keeper.disk
            c.complete_first-3.ensures.honest.0 so_far third.1,
        all_shown world first.0 second.0 third.0 so_far.follows.steps c.complete_first-3.result so_far.follows.leads.run (omega (arith, few, most))
            (λ stopped. behind.stopped ((grows first.0 second.0 second.1.follows.steps second.1.follows.leads.run).stopped stopped)) behind.stopped first.2 second.2 third.2,
      );
}
