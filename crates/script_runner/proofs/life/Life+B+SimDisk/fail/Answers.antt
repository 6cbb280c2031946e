use Rattle.std.proofs.Common.{◌≡◌, sym, subst, length}
use Rattle.std.proofs.Math.Logic.{∥∥₁_map}
use Rattle.device_image.specs.Keeper.{KeeperState}
use Rattle.disk_model.specs.FaultPlan.{armed}
use Rattle.disk_model.specs.SimDisk.{plan_of, state_now, with_plan}
use Rattle.disk_model.specs.declared.sim.SimDisk.{SimDisk}
use Rattle.export_steps.specs.Parts.{IsWorldOf}
use Rattle.script_runner.proofs.Lives.{life_with}
use Rattle.script_runner.proofs.life.Life+B+SimDisk.fail.Goals as goal

-- the plan of the device's faults is no part of its state
pub invariant_of-self : goal.invariant_of-self
invariant_of-self g c =
    let life = c.args.self.now in
    let disk = with_plan life.keeper.disk (armed c.args.kind c.args.k (plan_of c.args.self.now.keeper.disk)) in
    record {
      in_hand = life.in_hand;
      blocks = subst (λ (keeper : KeeperState SimDisk). length life.order.cache.states ≡ keeper.geometry.blocks) (sym c.fail.ensures) life.blocks;
      of_world = ∥∥₁_map life.of_world (λ is honest.
          let (world, of) = is honest in (
            world,
            subst (λ (keeper : KeeperState SimDisk). IsWorldOf world life.order keeper keeper.disk.failures life.bench (Unit {0}) (state_now keeper.disk)) (sym c.fail.ensures)
                (life_with life.keeper disk (state_now life.keeper.disk) world life.order life.keeper.disk.failures life.bench (Unit {0}) of),
          ));
    }
