use Rattle.std.proofs.Common.{◌≤◌, [], ◌∷◌, Option, refl, sym, ◌∙◌, ap, subst, arith}
use Rattle.checkpoint.specs.Steps.{IsCopyTime, left_in}
use Rattle.checkpoint.specs.declared.fault.KeeperFault.TheVariants as fault
use Rattle.device_image.specs.Keeper.{Phase}
use Rattle.journal_format.specs.Group.{Numbered}
use Rattle.export_steps.specs.Bench.{ConnectionsState}
use Rattle.export_steps.specs.Life.{Trusts}
use Rattle.export_steps.specs.Parts.{AreConnectionsOf}
use Rattle.export_steps.specs.inner.Storing.{hand_refused, order_refused}
use Rattle.export_steps.proofs.CopiesAreSteps.{copied_fewer, leads_copied, told_never, told_same}
use Rattle.export_steps.proofs.StepsOfEachKind.{performed_appended}
use Rattle.export_steps.proofs.Runs.{stepped, trusted_honest, trusts_as}
use Rattle.export_steps.proofs.StepsKeepCommands.{shows_still, steady_copy}
use Rattle.export_steps.proofs.StoringSteps.{not_true_is}
use Rattle.export_steps.proofs.CheckpointTimes.{copying_is}
use Rattle.export_steps.proofs.CheckpointSteps.{as_told, copied_leaves, copy_refused, count_unlike}
use Rattle.export_model.specs.Step.{after_step, copy_block}
use Rattle.export_model.specs.declared.step.Step.TheVariants.{Copy}
use Rattle.export_steps.proofs.engine.copy_some.Goals as goal

pub returns-in-Ok-clause-world : goal.returns-in-Ok-clause-world
returns-in-Ok-clause-world g c = λ world trusted of.
    let old = c.args.keeper.now in
    let new = c.copy_some.new.self in
    let call = c.in-Ok.ensures in
    let was = g.D.Disk.honest old.disk in
    let is = g.D.Disk.honest new.disk in
    let blocks = c.in-Ok.blocks in
    let within = c.schedule_law.ensures.within world of.reached in
    let works = not_true_is old.failed (λ failed. count_unlike blocks fault.Failed (call.failed.1 failed)) in
    let time = copying_is world.stage.turned world.stage.mapped world.stage.left blocks (omega (arith, call.ok.0))
    (subst (λ (p : Phase). blocks ≤ left_in p) of.of_keeper.phase call.left) in
    let now = subst IsCopyTime (sym of.of_keeper.phase) time.0 in
    let leaves = copied_leaves g.D.Disk.state g.D.Disk.faults g.D.Disk.extent g.D.Disk.honest g.met.D.Disk.sound world c.args.order.now c.args.connections.now.group old within of.of_order of.of_keeper
    new c.keeper_laws.ensures.left works call.faults_ok call.any_moment blocks call.ok.2 call.remembered call.held now in
    leads_copied world blocks c.args.order.now old new (g.D.Disk.faults old.disk) (g.D.Disk.faults new.disk) c.args.connections.now was (Trusts trusted was) (Trusts trusted is) (g.D.Disk.state old.disk) (g.D.Disk.state new.disk)
    (trusted_honest trusted was) (trusts_as trusted is was c.copy_some.ensures.honest.0) (trusts_as trusted was is c.copy_some.ensures.honest.1) within (λ next run. c.schedule_law.ensures.reached world next _ run of.reached)
    (sym of.of_keeper.failed ∙ works) time.1 time.2 time.3 of leaves

pub returns-in-Err-clause-world : goal.returns-in-Err-clause-world
returns-in-Err-clause-world g c = λ world trusted of.
    let old = c.args.keeper.now in
    let new = c.copy_some.new.self in
    let call = c.in-Err.ensures in
    let was = g.D.Disk.honest old.disk in
    let is = g.D.Disk.honest new.disk in
    let refusal = c.in-Err.fault in
    let within = c.schedule_law.ensures.within world of.reached in
    let hand_is = ap (λ (b : ConnectionsState). b.group) c.connections.view_is in
    let step = copy_refused g.D.Disk.state g.D.Disk.faults g.D.Disk.extent g.D.Disk.honest g.met.D.Disk.sound world c.args.order.now c.args.connections.now.group old within of.of_order of.of_keeper
    refusal new call.only (told_same refusal fault.Failed _ call.failed) call.err call.faults_err call.honest.1 call.any_moment (told_same refusal fault.NotNow _ call.not_now) (told_never refusal fault.NumbersFull call.not_full) in
    let done = as_told g.D.Disk.state g.D.Disk.faults g.D.Disk.extent g.D.Disk.honest g.met.D.Disk.sound world c.args.order.now c.args.connections.now.group old within of.of_order of.of_keeper
    refusal new (copy_block step.0 world) c.refused.result c.refused.new.order c.refused.new.hand c.refused.ensures.event
    (c.refused.ensures.order ∙ ap (λ (h : Option Numbered). order_refused refusal h c.args.order.now) hand_is) (c.refused.ensures.hand ∙ ap (hand_refused refusal) hand_is) step.1 in
    let view = c.connections.view_is in
    let bench : ConnectionsState = record { flags = c.connections.inside.flags; mode = c.connections.inside.mode; states = c.connections.inside.states.items; group = c.refused.new.hand } in
    let here = subst (AreConnectionsOf world) (sym (ap (λ (b : ConnectionsState). b.states) view)) of.of_states in
    let grows = c.schedule_law.ensures.grows world (after_step world Copy step.0) (Copy ∷ []) (step.0, refl) in (
      step.0,
      stepped world Copy step.0 c.refused.result c.args.order.now c.refused.new.order c.args.connections.now bench old new (g.D.Disk.faults old.disk) (g.D.Disk.faults new.disk)
          was (Trusts trusted was) (Trusts trusted is) (g.D.Disk.state old.disk) (g.D.Disk.state new.disk) (trusts_as trusted is was c.copy_some.ensures.honest.0) (trusted_honest trusted was)
          of (performed_appended was (g.D.Disk.state old.disk) (g.D.Disk.state new.disk) world (after_step world Copy step.0) c.refused.result c.args.order.now c.refused.new.order bench old new (g.D.Disk.faults new.disk) here
          (shows_still world.stage _ c.args.order.now c.refused.new.order (steady_copy world step.0) c.refused.ensures.cache) done)
          (trusts_as trusted was is c.copy_some.ensures.honest.1) grows (ap (λ (b : ConnectionsState). b.flags) view) (ap (λ (b : ConnectionsState). b.mode) view),
    )

pub returns-in-Ok-clause-fewer : goal.returns-in-Ok-clause-fewer
returns-in-Ok-clause-fewer g c =
    let call = c.in-Ok.ensures in
    copied_fewer (left_in c.args.keeper.now.phase) (left_in c.copy_some.new.self.phase) c.in-Ok.blocks call.left (ap (λ k. left_in k.phase) call.ok.2)
