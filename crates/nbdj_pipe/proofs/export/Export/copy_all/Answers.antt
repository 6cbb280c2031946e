use Rattle.std.proofs.Common.{refl, sym, subst, ◌∙◌}
use Rattle.export_model.specs.World.{World}
use Rattle.nbdj_pipe.specs.inner.Checkpoint.{HasCopied}
use Rattle.nbdj_pipe.proofs.Checkpoints.{all_copied, copied_on, copies_keep, none_copied}
use Rattle.nbdj_pipe.proofs.Steps.{settles_none, settles_on}
use Rattle.nbdj_pipe.proofs.export.Export.copy_all.Goals as goal

pub loop-event-init : goal.loop-event-init
loop-event-init g c = record {
  group = c.requires.group;
  extent = refl;
  honest = (λ is. is, λ is. is);
  world = λ world trusted of. (
    world,
    settles_none g.D.Disk.state g.D.Disk.faults g.D.Disk.honest c.leads_law.ensures world trusted c.args.self.now.order c.args.self.now.keeper c.args.self.now.connections of,
    none_copied world.stage,
  );
}

pub returns-in-Err-clause-world : goal.returns-in-Err-clause-world
returns-in-Err-clause-world g c = λ world trusted of.
    let disk = g.D.Disk in
    let mid = c.loop-event.self in
    let new = c.copy_some.new.self in
    let here = c.loop-event.invariant.world world trusted of in
    let on = c.in-Err.ensures.world here.0 trusted here.1.follows.leads.of_export in (
      on.0,
      settles_on disk.state disk.faults disk.honest c.leads_law.ensures world here.0 on.0 trusted mid.order new.order mid.keeper new.keeper mid.connections new.connections c.args.self.now.keeper.disk
          c.copy_some.ensures.honest.0 here.1 on.1,
      all_copied world here.0 on.0 c.in-Err.event c.goes_on_after-end.result here.1.follows.steps here.2 here.1.follows.leads.run on.2 c.in-Err.ensures.refused c.goes_on_after-end.ensures,
    )

pub loop-event-preserved : goal.loop-event-preserved
loop-event-preserved g c =
    let disk = g.D.Disk in
    let i = c.loop-event.invariant in
    let mid = c.loop-event.self in
    let new = c.copy_some.new.self in
    record {
      group = c.copy_some.ensures.group;
      extent = c.copy_some.ensures.extent ∙ i.extent;
      honest = (λ is. i.honest.0 (c.copy_some.ensures.honest.0 is), λ is. c.copy_some.ensures.honest.1 (i.honest.1 is));
      world = λ world trusted of.
          let here = i.world world trusted of in
          let on = c.in-Ok.ensures.world here.0 trusted here.1.follows.leads.of_export in (
            on.0,
            settles_on disk.state disk.faults disk.honest c.leads_law.ensures world here.0 on.0 trusted mid.order new.order mid.keeper new.keeper mid.connections new.connections c.args.self.now.keeper.disk
                c.copy_some.ensures.honest.0 here.1 on.1,
            copied_on world.stage here.0.stage on.0.stage here.2 (subst (λ (w : World). HasCopied here.0.stage w.stage) (sym on.2) (copies_keep c.in-Ok.field-0 here.0)),
          );
    }
