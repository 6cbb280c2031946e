use Rattle.std.proofs.Common.{ap, length, refl}
use Rattle.device_image.specs.Keeper.{KeeperState}
use Rattle.shared_cache.specs.Cache.{CacheState}
use Rattle.checkpoint.specs.declared.fault.KeeperFault.TheVariants as fault
use Rattle.export_steps.proofs.Refusals.{hand_left, keeper_left}
use Rattle.export_steps.proofs.StoringSteps.{not_true_is}
use Rattle.export_steps.proofs.CheckpointSteps.{as_told, ok_unlike, finish_done, finish_refused}
use Rattle.export_model.specs.Step.{finish}
use Rattle.export_steps.proofs.checkpointing.finish.Goals as goal

pub returns-in-Ok : goal.returns-in-Ok
returns-in-Ok g c = record {
  hand = c.requires;
  blocks = refl;
  cache = refl;
  geometry = ap (λ (k : KeeperState g.row.D.Denot). k.geometry) c.in-Ok.ensures.ok;
  count = ap (λ (k : KeeperState g.row.D.Denot). k.count) c.in-Ok.ensures.ok;
  extent = c.in-Ok.ensures.extent;
  honest = c.in-Ok.ensures.honest;
  world =
      λ world within of kept.
      let old = c.args.keeper.now in
      let new = c.finish.new.self in
      let call = c.in-Ok.ensures in
      let works = not_true_is old.failed (λ is. ok_unlike c.in-Ok.field-0 fault.Failed (call.failed.1 is)) in
      finish_done g.D.Disk.state g.D.Disk.faults g.D.Disk.extent g.D.Disk.honest g.met.D.Disk.sound world c.args.order.now c.args.hand.now old within of kept new
      c.keeper_laws.ensures.left works call.faults_ok call.any_moment call.ok call.remembered call.held
      (λ late. ok_unlike c.in-Ok.field-0 fault.NotNow (call.not_now.1 (works, late))) (λ now full. ok_unlike c.in-Ok.field-0 fault.NumbersFull (call.full.1 (works, now, full)));
}

pub returns-in-Err : goal.returns-in-Err
returns-in-Err g c = record {
  hand = hand_left c.in-Err.fault c.args.hand.now c.refused.new.hand c.args.order.now c.refused.new.order c.requires c.refused.ensures.order c.refused.ensures.hand;
  blocks = ap (λ (cache : CacheState). length cache.states) c.refused.ensures.cache;
  cache = c.refused.ensures.cache;
  geometry = (keeper_left c.in-Err.fault c.args.keeper.now c.finish.new.self c.in-Err.ensures.err).0;
  count = (keeper_left c.in-Err.fault c.args.keeper.now c.finish.new.self c.in-Err.ensures.err).1;
  extent = c.in-Err.ensures.extent;
  honest = c.in-Err.ensures.honest;
  world =
      λ world within of kept.
      let old = c.args.keeper.now in
      let new = c.finish.new.self in
      let call = c.in-Err.ensures in
      let step = finish_refused g.D.Disk.state g.D.Disk.faults g.D.Disk.extent g.D.Disk.honest g.met.D.Disk.sound world c.args.order.now c.args.hand.now old within of kept
      c.in-Err.fault new call.only call.failed call.err call.faults_err call.honest.1 call.any_moment call.not_now call.full call.memory in (
        step.0,
        as_told g.D.Disk.state g.D.Disk.faults g.D.Disk.extent g.D.Disk.honest g.met.D.Disk.sound world c.args.order.now c.args.hand.now old within of kept
            c.in-Err.fault new (finish step.0 world) c.refused.result c.refused.new.order c.refused.new.hand c.refused.ensures.event c.refused.ensures.order c.refused.ensures.hand step.1,
      );
}
