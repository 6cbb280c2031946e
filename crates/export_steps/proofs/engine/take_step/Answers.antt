use Rattle.std.proofs.Common.{[], ◌∷◌, refl}
use Rattle.export_steps.specs.Life.{Trusts}
use Rattle.export_steps.proofs.Runs.{stepped, trusted_honest, trusts_as}
use Rattle.export_model.specs.Step.{after_step}
use Rattle.export_steps.proofs.engine.take_step.Goals as goal

pub returns-clause-world : goal.returns-clause-world
returns-clause-world g c = λ world trusted of.
    let old = c.args.keeper.now in
    let new = c.perform.new.keeper in
    let step = c.args.step.now in
    let was = g.D.Disk.honest old.disk in
    let is = g.D.Disk.honest new.disk in
    let done = c.perform.ensures.world world (c.schedule_law.ensures.within world of.reached) of.of_order of.of_keeper of.of_states of.flags of.mode
    (λ sure. (trusted_honest trusted was (of.sure sure), of.disk (of.sure sure), of.shows (of.sure sure))) in
    let grows = c.schedule_law.ensures.grows world (after_step world step done.0) (step ∷ []) (done.0, refl) in (
      done.0,
      stepped world step done.0 c.perform.result c.args.order.now c.perform.new.order c.args.connections.now c.perform.new.connections old new (g.D.Disk.faults old.disk) (g.D.Disk.faults new.disk)
          was (Trusts trusted was) (Trusts trusted is) (g.D.Disk.state old.disk) (g.D.Disk.state new.disk) (trusts_as trusted is was c.perform.ensures.honest.0) (trusted_honest trusted was)
          of done.1 (trusts_as trusted was is c.perform.ensures.honest.1) grows c.perform.ensures.connections.0 c.perform.ensures.connections.1,
    )
