use Rattle.std.proofs.Common.{◌≡◌, Bool, [], MatchBool, ap, sym, subst, ◌∙◌}
use Rattle.std.specs.Prelude.{◌≤◌}
use Rattle.export_model.specs.World.{Setting}
use Rattle.nbdj_pipe.specs.Causes.{HasCause}
use Rattle.nbdj_pipe.specs.inner.Refusals.{IsOfExport}
use Rattle.nbdj_pipe.specs.inner.Causes.{LacksRoom}
use Rattle.nbdj_pipe.specs.inner.Export.{IsJudged}
use Rattle.nbdj_pipe.specs.Talk.{verdict_on}
use Rattle.nbdj_pipe.proofs.Causes.{cause_behind, caused_behind, if_error}
use Rattle.nbdj_pipe.proofs.Checkpoints.{judged_as}
use Rattle.nbdj_pipe.proofs.Steps.{follows_on, no_ok}
use Rattle.nbdj_pipe.proofs.export.Export.serve_sent.Goals as goal

pub returns-then-try_serve : goal.returns-then-try_serve
returns-then-try_serve g c = record {
  group = c.try_serve.ensures.group;
  extent = c.try_serve.ensures.extent;
  honest = c.try_serve.ensures.honest;
  early = tt;
  world = λ world trusted request of sent few frames.
      let first = c.try_serve.ensures.world world trusted request of sent in
      let judged = subst (λ (b : Bool). MatchBool b (IsJudged request.head (verdict_on request.head world.stage.setting.geometry world.stage.setting.flags) (first.0.connections 0)) ((first.0.connections ≡ world.connections) × (first.0.stage ≡ world.stage) × LacksRoom world request)) c.if-try_serve.true first.1 in
      (first.0, judged, first.2, tt);
}

pub returns-in_err-store_all : goal.returns-in_err-store_all
returns-in_err-store_all g c = record {
  group = c.store_all.ensures.group;
  extent = c.store_all.ensures.extent ∙ c.try_serve.ensures.extent;
  honest = (λ is. c.try_serve.ensures.honest.0 (c.store_all.ensures.honest.0 is), λ is. c.store_all.ensures.honest.1 (c.try_serve.ensures.honest.1 is));
  early = if_error IsOfExport c.in_err-store_all.field-0.0 c.from_residual.result c.from_residual.ensures.1 c.in_err-store_all.ensures.early;
  world = λ world trusted request of sent few frames.
      let disk = g.D.Disk in
      let law = c.leads_law.ensures in
      let start = c.args.self.now.keeper.disk in
      let one = c.try_serve.new.self in
      let two = c.store_all.new.self in
      let first = c.try_serve.ensures.world world trusted request of sent in
      let second = c.in_err-store_all.ensures.world first.0 trusted first.2.leads.of_export in (
        second.0,
        no_ok _ _ c.from_residual.result c.from_residual.ensures.1,
        follows_on disk.state disk.faults disk.honest law world first.0 second.0 trusted [] [] one.order two.order one.keeper two.keeper one.connections two.connections start
            c.store_all.ensures.honest.0 first.2 second.1.follows,
        if_error (λ refusal. HasCause refusal world second.0) c.in_err-store_all.field-0.0 c.from_residual.result c.from_residual.ensures.1
            (cause_behind c.in_err-store_all.field-0.0 world first.0 second.0 first.2.steps first.2.leads.run second.2),
      );
}

pub returns : goal.returns
returns g c = record {
  group = c.serve_stored.ensures.group;
  extent = c.serve_stored.ensures.extent ∙ (c.store_all.ensures.extent ∙ c.try_serve.ensures.extent);
  honest = (λ is. c.try_serve.ensures.honest.0 (c.store_all.ensures.honest.0 (c.serve_stored.ensures.honest.0 is)), λ is. c.serve_stored.ensures.honest.1 (c.store_all.ensures.honest.1 (c.try_serve.ensures.honest.1 is)));
  early = c.serve_stored.ensures.early;
  world = λ world trusted request of sent few frames.
      let disk = g.D.Disk in
      let law = c.leads_law.ensures in
      let start = c.args.self.now.keeper.disk in
      let one = c.try_serve.new.self in
      let two = c.store_all.new.self in
      let first = c.try_serve.ensures.world world trusted request of sent in
      let held = subst (λ (b : Bool). MatchBool b (IsJudged request.head (verdict_on request.head world.stage.setting.geometry world.stage.setting.flags) (first.0.connections 0)) ((first.0.connections ≡ world.connections) × (first.0.stage ≡ world.stage) × LacksRoom world request)) c.if-try_serve.false first.1 in
      let second = c.in_ok-store_all.ensures.world first.0 trusted first.2.leads.of_export in
      let stored = follows_on disk.state disk.faults disk.honest law world first.0 second.0 trusted [] [] one.order two.order one.keeper two.keeper one.connections two.connections start
      c.store_all.ensures.honest.0 first.2 second.1.follows in
      let still = ap (λ f. f 0) (second.1.connections_are ∙ held.0) ∙ sent in
      let three = c.serve_stored.new.self in
      let third = c.serve_stored.ensures.world second.0 trusted request second.1.follows.leads.of_export still few (subst (λ (s : Setting). 512 ≤ s.frames) (sym stored.setting) frames) in (
        third.0,
        judged_as request c.serve_stored.result world.stage.setting second.0.stage.setting (third.0.connections 0) stored.setting third.1,
        follows_on disk.state disk.faults disk.honest law world second.0 third.0 trusted [] [] two.order three.order two.keeper three.keeper two.connections three.connections start
            c.serve_stored.ensures.honest.0 stored third.2,
        caused_behind c.serve_stored.result world second.0 third.0 stored.steps stored.leads.run third.3,
      );
}
