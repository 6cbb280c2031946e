use Rattle.std.proofs.Common.{◌≡◌, inl, inr, Bool, true, Ok, sym, subst, ◌∙◌}
use Rattle.std.proofs.lemmas.Bool.{both_ways}
use Rattle.export_model.specs.World.{World}
use Rattle.nbdj_pipe.specs.Causes.{HasCause}
use Rattle.nbdj_pipe.specs.inner.Refusals.{IsOfExport}
use Rattle.nbdj_pipe.specs.inner.Checkpoint.{IsEmptied, IsUnfit, OrStopped}
use Rattle.nbdj_pipe.specs.inner.Export.{CameTo}
use Rattle.front_end.specs.declared.refusal.Refusal.{Refusal}
use Rattle.nbdj_pipe.proofs.Causes.{cause_behind, gets_on_behind, if_error, if_matched, settled_gets_on, unsettled}
use Rattle.nbdj_pipe.proofs.Checkpoints.{empty_takes}
use Rattle.nbdj_pipe.proofs.Steps.{settles_on}
use Rattle.nbdj_pipe.proofs.export.Export.store_some.Goals as goal

pub returns-in_err-store_group : goal.returns-in_err-store_group
returns-in_err-store_group g c = record {
  group = c.store_group.ensures.group;
  extent = c.store_group.ensures.extent;
  honest = c.store_group.ensures.honest;
  early = if_error IsOfExport c.in_err-store_group.field-0.0 c.from_residual.result c.from_residual.ensures.1 c.in_err-store_group.ensures.early;
  world = λ world trusted of.
      let first = c.in_err-store_group.ensures.world world trusted of in (
        first.0,
        first.1,
        if_matched _ (λ refusal. HasCause refusal world first.0) c.in_err-store_group.field-0.0 c.from_residual.result c.from_residual.ensures.1
            (subst (λ (refusal : Refusal). HasCause refusal world first.0) (sym first.2) tt),
      );
}

pub returns-then-branch : goal.returns-then-branch
returns-then-branch g c = record {
  group = c.store_group.ensures.group;
  extent = c.store_group.ensures.extent;
  honest = c.store_group.ensures.honest;
  early = tt;
  world = λ world trusted of.
      let first = c.in_ok-store_group.ensures.world world trusted of in
      (first.0, first.1, subst (λ (fits : Bool). CameTo world first.0 (Ok fits)) c.if-branch.true first.2);
}

pub returns-in_err-checkpoint : goal.returns-in_err-checkpoint
returns-in_err-checkpoint g c = record {
  group = c.checkpoint.ensures.group;
  extent = c.checkpoint.ensures.extent ∙ c.store_group.ensures.extent;
  honest = (λ is. c.store_group.ensures.honest.0 (c.checkpoint.ensures.honest.0 is), λ is. c.checkpoint.ensures.honest.1 (c.store_group.ensures.honest.1 is));
  early = if_error IsOfExport c.in_err-checkpoint.field-0.0 c.from_residual-in_err-checkpoint.result c.from_residual-in_err-checkpoint.ensures.1 c.in_err-checkpoint.ensures.early;
  world = λ world trusted of.
      let disk = g.D.Disk in
      let law = c.leads_law.ensures in
      let one = c.store_group.new.self in
      let first = c.in_ok-store_group.ensures.world world trusted of in
      let two = c.checkpoint.new.self in
      let second = c.in_err-checkpoint.ensures.world first.0 trusted first.1.follows.leads.of_export in (
        second.0,
        settles_on disk.state disk.faults disk.honest law world first.0 second.0 trusted one.order two.order one.keeper two.keeper one.connections two.connections c.args.self.now.keeper.disk
            c.checkpoint.ensures.honest.0 first.1 second.1,
        if_matched _ (λ refusal. HasCause refusal world second.0) c.in_err-checkpoint.field-0.0 c.from_residual-in_err-checkpoint.result c.from_residual-in_err-checkpoint.ensures.1
            (cause_behind c.in_err-checkpoint.field-0.0 world first.0 second.0 first.1.follows.steps first.1.follows.leads.run second.2),
      );
}

pub returns-then-is_settled : goal.returns-then-is_settled
returns-then-is_settled g c = record {
  group = c.checkpoint.ensures.group;
  extent = c.checkpoint.ensures.extent ∙ c.store_group.ensures.extent;
  honest = (λ is. c.store_group.ensures.honest.0 (c.checkpoint.ensures.honest.0 is), λ is. c.checkpoint.ensures.honest.1 (c.store_group.ensures.honest.1 is));
  early = tt;
  world = λ world trusted of.
      let disk = g.D.Disk in
      let law = c.leads_law.ensures in
      let one = c.store_group.new.self in
      let first = c.in_ok-store_group.ensures.world world trusted of in
      let two = c.checkpoint.new.self in
      let second = c.in_ok-checkpoint.ensures.world first.0 trusted first.1.follows.leads.of_export in
      let so_far = settles_on disk.state disk.faults disk.honest law world first.0 second.0 trusted one.order two.order one.keeper two.keeper one.connections two.connections c.args.self.now.keeper.disk
      c.checkpoint.ensures.honest.0 first.1 second.1 in
      let within = c.schedule_law.ensures.within world of.reached in
      let pending = unsettled world c.args.self.now.order c.args.self.now.connections within of.of_order c.requires.pending in (
        second.0,
        so_far,
        settled_gets_on world second.0 two.order two.connections so_far.follows.leads.of_export.of_order (c.is_settled.ensures.0 c.if-is_settled.true) pending.1
            (c.schedule_law.ensures.grows world second.0 so_far.follows.steps so_far.follows.leads.run),
      );
}

pub returns-in_err-store_group-2 : goal.returns-in_err-store_group-2
returns-in_err-store_group-2 g c = record {
  group = c.store_group-2.ensures.group;
  extent = c.store_group-2.ensures.extent ∙ (c.checkpoint.ensures.extent ∙ c.store_group.ensures.extent);
  honest = (λ is. c.store_group.ensures.honest.0 (c.checkpoint.ensures.honest.0 (c.store_group-2.ensures.honest.0 is)), λ is. c.store_group-2.ensures.honest.1 (c.checkpoint.ensures.honest.1 (c.store_group.ensures.honest.1 is)));
  early = if_error IsOfExport c.in_err-store_group-2.field-0.0 c.from_residual-in_err-store_group-2.result c.from_residual-in_err-store_group-2.ensures.1 c.in_err-store_group-2.ensures.early;
  world = λ world trusted of.
      let disk = g.D.Disk in
      let law = c.leads_law.ensures in
      let one = c.store_group.new.self in
      let first = c.in_ok-store_group.ensures.world world trusted of in
      let two = c.checkpoint.new.self in
      let second = c.in_ok-checkpoint.ensures.world first.0 trusted first.1.follows.leads.of_export in
      let so_far = settles_on disk.state disk.faults disk.honest law world first.0 second.0 trusted one.order two.order one.keeper two.keeper one.connections two.connections c.args.self.now.keeper.disk
      c.checkpoint.ensures.honest.0 first.1 second.1 in
      let three = c.store_group-2.new.self in
      let third = c.in_err-store_group-2.ensures.world second.0 trusted second.1.follows.leads.of_export in
      let all = settles_on disk.state disk.faults disk.honest law world second.0 third.0 trusted two.order three.order two.keeper three.keeper two.connections three.connections c.args.self.now.keeper.disk
      c.store_group-2.ensures.honest.0 so_far third.1 in (
        third.0,
        all,
        if_matched _ (λ refusal. HasCause refusal world third.0) c.in_err-store_group-2.field-0.0 c.from_residual-in_err-store_group-2.result c.from_residual-in_err-store_group-2.ensures.1
            (subst (λ (refusal : Refusal). HasCause refusal world third.0) (sym third.2) tt),
      );
}

pub returns-then-branch-2 : goal.returns-then-branch-2
returns-then-branch-2 g c = record {
  group = c.store_group-2.ensures.group;
  extent = c.store_group-2.ensures.extent ∙ (c.checkpoint.ensures.extent ∙ c.store_group.ensures.extent);
  honest = (λ is. c.store_group.ensures.honest.0 (c.checkpoint.ensures.honest.0 (c.store_group-2.ensures.honest.0 is)), λ is. c.store_group-2.ensures.honest.1 (c.checkpoint.ensures.honest.1 (c.store_group.ensures.honest.1 is)));
  early = tt;
  world = λ world trusted of.
      let disk = g.D.Disk in
      let law = c.leads_law.ensures in
      let one = c.store_group.new.self in
      let first = c.in_ok-store_group.ensures.world world trusted of in
      let two = c.checkpoint.new.self in
      let second = c.in_ok-checkpoint.ensures.world first.0 trusted first.1.follows.leads.of_export in
      let so_far = settles_on disk.state disk.faults disk.honest law world first.0 second.0 trusted one.order two.order one.keeper two.keeper one.connections two.connections c.args.self.now.keeper.disk
      c.checkpoint.ensures.honest.0 first.1 second.1 in
      let three = c.store_group-2.new.self in
      let third = c.in_ok-store_group-2.ensures.world second.0 trusted second.1.follows.leads.of_export in
      let all = settles_on disk.state disk.faults disk.honest law world second.0 third.0 trusted two.order three.order two.keeper three.keeper two.connections three.connections c.args.self.now.keeper.disk
      c.store_group-2.ensures.honest.0 so_far third.1 in (
        third.0,
        all,
        gets_on_behind world second.0 third.0 (c.schedule_law.ensures.grows world second.0 so_far.follows.steps so_far.follows.leads.run)
            (subst (λ (fits : Bool). CameTo second.0 third.0 (Ok fits)) c.if-branch-2.true third.2),
      );
}

pub returns : goal.returns
returns g c = record {
  group = c.store_group-2.ensures.group;
  extent = c.store_group-2.ensures.extent ∙ (c.checkpoint.ensures.extent ∙ c.store_group.ensures.extent);
  honest = (λ is. c.store_group.ensures.honest.0 (c.checkpoint.ensures.honest.0 (c.store_group-2.ensures.honest.0 is)), λ is. c.store_group-2.ensures.honest.1 (c.checkpoint.ensures.honest.1 (c.store_group.ensures.honest.1 is)));
  early = tt;
  world = λ world trusted of.
      let disk = g.D.Disk in
      let law = c.leads_law.ensures in
      let one = c.store_group.new.self in
      let first = c.in_ok-store_group.ensures.world world trusted of in
      let two = c.checkpoint.new.self in
      let second = c.in_ok-checkpoint.ensures.world first.0 trusted first.1.follows.leads.of_export in
      let so_far = settles_on disk.state disk.faults disk.honest law world first.0 second.0 trusted one.order two.order one.keeper two.keeper one.connections two.connections c.args.self.now.keeper.disk
      c.checkpoint.ensures.honest.0 first.1 second.1 in
      let three = c.store_group-2.new.self in
      let third = c.in_ok-store_group-2.ensures.world second.0 trusted second.1.follows.leads.of_export in
      let all = settles_on disk.state disk.faults disk.honest law world second.0 third.0 trusted two.order three.order two.keeper three.keeper two.connections three.connections c.args.self.now.keeper.disk
      c.store_group-2.ensures.honest.0 so_far third.1 in
      let unfit : IsUnfit world first.0 = subst (λ (fits : Bool). CameTo world first.0 (Ok fits)) c.if-branch.false first.2 in
      let again : IsUnfit second.0 third.0 = subst (λ (fits : Bool). CameTo second.0 third.0 (Ok fits)) c.if-branch-2.false third.2 in
      let stopped : second.0.stage.stopped ≡ true → ⊥ = λ is. both_ways c.is_settled.result c.if-is_settled.false (c.is_settled.ensures.1 (inl (second.1.follows.leads.of_export.of_order.stopped ∙ is))) in
      (third.0, all, never unfit again stopped second.2);
}
  where
    never : {world first second third : World} → IsUnfit world first → IsUnfit second third → (second.stage.stopped ≡ true → ⊥) → OrStopped IsEmptied first second → ⊥
    never unfit again stopped (inl is) = stopped is
    never {second = second} unfit again stopped (inr emptied) = empty_takes second again.failure emptied.at (emptied.keeps.sealed ∙ unfit.back ∙ sym emptied.keeps.stored) again.full
