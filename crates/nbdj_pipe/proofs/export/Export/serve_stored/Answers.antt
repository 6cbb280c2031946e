use Rattle.std.proofs.Common.{◌≡◌, inl, inr, Bool, [], length, MatchBool, ap, sym, subst, ◌∙◌}
use Rattle.std.specs.Prelude.{◌≤◌}
use Rattle.std.proofs.lemmas.Bool.{both_ways}
use Rattle.nbd_wire.specs.Request.{Message}
use Rattle.export_model.specs.World.{Setting, Stage, World}
use Rattle.export_model.specs.Law.{IsWithin}
use Rattle.nbdj_pipe.specs.Causes.{HasCause}
use Rattle.nbdj_pipe.specs.inner.Refusals.{IsOfExport}
use Rattle.nbdj_pipe.specs.inner.Causes.{LacksRoom}
use Rattle.nbdj_pipe.specs.inner.Checkpoint.{IsEmptied, OrStopped}
use Rattle.nbdj_pipe.specs.inner.Export.{IsJudged}
use Rattle.nbdj_pipe.specs.Talk.{verdict_on}
use Rattle.nbdj_pipe.proofs.Causes.{all_durable, cause_behind, if_error}
use Rattle.nbdj_pipe.proofs.Checkpoints.{emptied_has_room}
use Rattle.nbdj_pipe.proofs.Steps.{follows_on, no_ok}
use Rattle.nbdj_pipe.proofs.export.Export.serve_stored.Goals as goal

pub returns-then-try_serve : goal.returns-then-try_serve
returns-then-try_serve g c = record {
  group = c.try_serve.ensures.group;
  extent = c.try_serve.ensures.extent;
  honest = c.try_serve.ensures.honest;
  early = tt;
  world = λ world trusted request of sent few frames.
      let first = c.try_serve.ensures.world world trusted request of sent in
      let judged = subst (λ (b : Bool). MatchBool b (IsJudged request.head (verdict_on request.head world.stage.setting.geometry world.stage.setting.flags) (first.0.connections 0)) ((first.0.connections ≡ world.connections) × (first.0.stage ≡ world.stage) × LacksRoom world request)) c.if-try_serve.true first.1 in
      (first.0, judged, first.2, tt);
}

pub returns-in_err-checkpoint : goal.returns-in_err-checkpoint
returns-in_err-checkpoint g c = record {
  group = c.checkpoint.ensures.group;
  extent = c.checkpoint.ensures.extent ∙ c.try_serve.ensures.extent;
  honest = (λ is. c.try_serve.ensures.honest.0 (c.checkpoint.ensures.honest.0 is), λ is. c.checkpoint.ensures.honest.1 (c.try_serve.ensures.honest.1 is));
  early = if_error IsOfExport c.in_err-checkpoint.field-0.0 c.from_residual.result c.from_residual.ensures.1 c.in_err-checkpoint.ensures.early;
  world = λ world trusted request of sent few frames.
      let disk = g.D.Disk in
      let law = c.leads_law.ensures in
      let start = c.args.self.now.keeper.disk in
      let one = c.try_serve.new.self in
      let two = c.checkpoint.new.self in
      let first = c.try_serve.ensures.world world trusted request of sent in
      let held = subst (λ (b : Bool). MatchBool b (IsJudged request.head (verdict_on request.head world.stage.setting.geometry world.stage.setting.flags) (first.0.connections 0)) ((first.0.connections ≡ world.connections) × (first.0.stage ≡ world.stage) × LacksRoom world request)) c.if-try_serve.false first.1 in
      let second = c.in_err-checkpoint.ensures.world first.0 trusted first.2.leads.of_export in (
        second.0,
        no_ok _ _ c.from_residual.result c.from_residual.ensures.1,
        follows_on disk.state disk.faults disk.honest law world first.0 second.0 trusted [] [] one.order two.order one.keeper two.keeper one.connections two.connections start
            c.checkpoint.ensures.honest.0 first.2 second.1.follows,
        if_error (λ refusal. HasCause refusal world second.0) c.in_err-checkpoint.field-0.0 c.from_residual.result c.from_residual.ensures.1
            (cause_behind c.in_err-checkpoint.field-0.0 world first.0 second.0 first.2.steps first.2.leads.run second.2),
      );
}

pub returns-then-try_serve-2 : goal.returns-then-try_serve-2
returns-then-try_serve-2 g c = record {
  group = c.try_serve-2.ensures.group;
  extent = c.try_serve-2.ensures.extent ∙ (c.checkpoint.ensures.extent ∙ c.try_serve.ensures.extent);
  honest = (λ is. c.try_serve.ensures.honest.0 (c.checkpoint.ensures.honest.0 (c.try_serve-2.ensures.honest.0 is)), λ is. c.try_serve-2.ensures.honest.1 (c.checkpoint.ensures.honest.1 (c.try_serve.ensures.honest.1 is)));
  early = tt;
  world = λ world trusted request of sent few frames.
      let disk = g.D.Disk in
      let law = c.leads_law.ensures in
      let start = c.args.self.now.keeper.disk in
      let one = c.try_serve.new.self in
      let two = c.checkpoint.new.self in
      let first = c.try_serve.ensures.world world trusted request of sent in
      let held = subst (λ (b : Bool). MatchBool b (IsJudged request.head (verdict_on request.head world.stage.setting.geometry world.stage.setting.flags) (first.0.connections 0)) ((first.0.connections ≡ world.connections) × (first.0.stage ≡ world.stage) × LacksRoom world request)) c.if-try_serve.false first.1 in
      let second = c.in_ok-checkpoint.ensures.world first.0 trusted first.2.leads.of_export in
      let emptied = follows_on disk.state disk.faults disk.honest law world first.0 second.0 trusted [] [] one.order two.order one.keeper two.keeper one.connections two.connections start
      c.checkpoint.ensures.honest.0 first.2 second.1.follows in
      let still = ap (λ f. f 0) (second.1.connections_are ∙ held.0) ∙ sent in
      let three = c.try_serve-2.new.self in
      let third = c.try_serve-2.ensures.world second.0 trusted request second.1.follows.leads.of_export still in
      let last = follows_on disk.state disk.faults disk.honest law world second.0 third.0 trusted [] [] two.order three.order two.keeper three.keeper two.connections three.connections start
      c.try_serve-2.ensures.honest.0 emptied third.2 in
      let judged = subst (λ (b : Bool). MatchBool b (IsJudged request.head (verdict_on request.head second.0.stage.setting.geometry second.0.stage.setting.flags) (third.0.connections 0)) ((third.0.connections ≡ second.0.connections) × (third.0.stage ≡ second.0.stage) × LacksRoom second.0 request)) c.if-try_serve-2.true third.1 in
      (third.0, subst (λ (s : Setting). IsJudged request.head (verdict_on request.head s.geometry s.flags) (third.0.connections 0)) emptied.setting judged, last, tt);
}

pub returns : goal.returns
returns g c = record {
  group = c.try_serve-2.ensures.group;
  extent = c.try_serve-2.ensures.extent ∙ (c.checkpoint.ensures.extent ∙ c.try_serve.ensures.extent);
  honest = (λ is. c.try_serve.ensures.honest.0 (c.checkpoint.ensures.honest.0 (c.try_serve-2.ensures.honest.0 is)), λ is. c.try_serve-2.ensures.honest.1 (c.checkpoint.ensures.honest.1 (c.try_serve.ensures.honest.1 is)));
  early = tt;
  world = λ world trusted request of sent few frames.
      let disk = g.D.Disk in
      let law = c.leads_law.ensures in
      let start = c.args.self.now.keeper.disk in
      let one = c.try_serve.new.self in
      let two = c.checkpoint.new.self in
      let first = c.try_serve.ensures.world world trusted request of sent in
      let held = subst (λ (b : Bool). MatchBool b (IsJudged request.head (verdict_on request.head world.stage.setting.geometry world.stage.setting.flags) (first.0.connections 0)) ((first.0.connections ≡ world.connections) × (first.0.stage ≡ world.stage) × LacksRoom world request)) c.if-try_serve.false first.1 in
      let second = c.in_ok-checkpoint.ensures.world first.0 trusted first.2.leads.of_export in
      let emptied = follows_on disk.state disk.faults disk.honest law world first.0 second.0 trusted [] [] one.order two.order one.keeper two.keeper one.connections two.connections start
      c.checkpoint.ensures.honest.0 first.2 second.1.follows in
      let still = ap (λ f. f 0) (second.1.connections_are ∙ held.0) ∙ sent in
      let three = c.try_serve-2.new.self in
      let third = c.try_serve-2.ensures.world second.0 trusted request second.1.follows.leads.of_export still in
      let last = follows_on disk.state disk.faults disk.honest law world second.0 third.0 trusted [] [] two.order three.order two.keeper three.keeper two.connections three.connections start
      c.try_serve-2.ensures.honest.0 emptied third.2 in
      let lacks = (subst (λ (b : Bool). MatchBool b (IsJudged request.head (verdict_on request.head second.0.stage.setting.geometry second.0.stage.setting.flags) (third.0.connections 0)) ((third.0.connections ≡ second.0.connections) × (third.0.stage ≡ second.0.stage) × LacksRoom second.0 request)) c.if-try_serve-2.false third.1).2 in
      let durable = all_durable world c.args.self.now.order c.args.self.now.connections of.of_order held.2.works c.requires.settled in
      let all = subst (λ (s : Stage). s.durable ≡ length s.order) (sym held.1) durable in
      let within = c.schedule_law.ensures.within first.0 first.2.leads.of_export.reached in
      let enough = subst (λ (s : Setting). 512 ≤ s.frames) (sym emptied.setting) frames in
      (third.0, tt, last, never within all few enough lacks second.2);
}
  where
    never : {first world : World} {request : Message} → IsWithin first → first.stage.durable ≡ length first.stage.order → length request.bytes ≤ 1048576 → 512 ≤ world.stage.setting.frames → LacksRoom world request → OrStopped IsEmptied first world → ⊥
    never {world = world} within all few enough lacks (inl stopped) = both_ways world.stage.stopped lacks.works stopped
    never {first = first} {world = world} {request = request} within all few enough lacks (inr emptied) = emptied_has_room first world request within emptied all few enough lacks
