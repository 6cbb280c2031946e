use Rattle.std.proofs.Common.{inr, refl, ◌∙◌, arith}
use Rattle.std.proofs.lemmas.Bool.{both_ways}
use Rattle.nbdj_pipe.specs.Causes.{HasCause}
use Rattle.nbdj_pipe.specs.inner.Refusals.{IsOfExport}
use Rattle.nbdj_pipe.proofs.Causes.{cause_behind, if_error, settled_at_last, stored_more_often}
use Rattle.nbdj_pipe.proofs.Steps.{no_ok, settles_none, settles_on}
use Rattle.nbdj_pipe.proofs.export.Export.store_all.Goals as goal

pub loop-groups-init : goal.loop-groups-init
loop-groups-init g c = record {
  group = c.requires.group;
  extent = refl;
  honest = (λ is. is, λ is. is);
  world = λ world trusted of. (
    world,
    settles_none g.D.Disk.state g.D.Disk.faults g.D.Disk.honest c.leads_law.ensures world trusted c.args.self.now.order c.args.self.now.keeper c.args.self.now.connections of,
    inr (omega arith),
  );
}

pub loop-groups-preserved : goal.loop-groups-preserved
loop-groups-preserved g c =
    let disk = g.D.Disk in
    let i = c.loop-groups.invariant in
    let mid = c.loop-groups.self in
    let new = c.store_some.new.self in
    record {
      group = c.store_some.ensures.group;
      extent = c.store_some.ensures.extent ∙ i.extent;
      honest = (λ is. i.honest.0 (c.store_some.ensures.honest.0 is), λ is. c.store_some.ensures.honest.1 (i.honest.1 is));
      world = λ world trusted of.
          let here = i.world world trusted of in
          let on = c.in_ok-store_some.ensures.world here.0 trusted here.1.follows.leads.of_export in (
            on.0,
            settles_on disk.state disk.faults disk.honest c.leads_law.ensures world here.0 on.0 trusted mid.order new.order mid.keeper new.keeper mid.connections new.connections c.args.self.now.keeper.disk
                c.store_some.ensures.honest.0 here.1 on.1,
            stored_more_often world here.0 on.0 c.loop-groups.groups (c.schedule_law.ensures.grows here.0 on.0 on.1.follows.steps on.1.follows.leads.run).stopped here.2 on.2,
          );
    }

pub returns-in_err-store_some : goal.returns-in_err-store_some
returns-in_err-store_some g c = record {
  group = c.store_some.ensures.group;
  extent = c.store_some.ensures.extent ∙ c.loop-groups.invariant.extent;
  honest = (λ is. c.loop-groups.invariant.honest.0 (c.store_some.ensures.honest.0 is), λ is. c.store_some.ensures.honest.1 (c.loop-groups.invariant.honest.1 is));
  ok = no_ok _ _ c.from_residual.result c.from_residual.ensures.1;
  early = if_error IsOfExport c.in_err-store_some.field-0.0 c.from_residual.result c.from_residual.ensures.1 c.in_err-store_some.ensures.early;
  world = λ world trusted of.
      let disk = g.D.Disk in
      let i = c.loop-groups.invariant in
      let mid = c.loop-groups.self in
      let new = c.store_some.new.self in
      let here = i.world world trusted of in
      let on = c.in_err-store_some.ensures.world here.0 trusted here.1.follows.leads.of_export in (
        on.0,
        settles_on disk.state disk.faults disk.honest c.leads_law.ensures world here.0 on.0 trusted mid.order new.order mid.keeper new.keeper mid.connections new.connections c.args.self.now.keeper.disk
            c.store_some.ensures.honest.0 here.1 on.1,
        if_error (λ refusal. HasCause refusal world on.0) c.in_err-store_some.field-0.0 c.from_residual.result c.from_residual.ensures.1
            (cause_behind c.in_err-store_some.field-0.0 world here.0 on.0 here.1.follows.steps here.1.follows.leads.run on.2),
      );
}

pub returns-then-is_settled : goal.returns-then-is_settled
returns-then-is_settled g c = record {
  group = c.loop-groups.invariant.group;
  extent = c.loop-groups.invariant.extent;
  honest = c.loop-groups.invariant.honest;
  ok = c.is_settled.ensures.0 c.if-is_settled.true;
  early = tt;
  world = λ world trusted of. let here = c.loop-groups.invariant.world world trusted of in (here.0, here.1, tt);
}

pub returns-then-is_settled-2 : goal.returns-then-is_settled-2
returns-then-is_settled-2 g c = record {
  group = c.loop-groups.invariant.group;
  extent = c.loop-groups.invariant.extent;
  honest = c.loop-groups.invariant.honest;
  ok = c.is_settled-2.ensures.0 c.if-is_settled-2.true;
  early = tt;
  world = λ world trusted of. let here = c.loop-groups.invariant.world world trusted of in (here.0, here.1, tt);
}

pub returns-else-is_settled-2 : goal.returns-else-is_settled-2
returns-else-is_settled-2 g c = record {
  group = c.loop-groups.invariant.group;
  extent = c.loop-groups.invariant.extent;
  honest = c.loop-groups.invariant.honest;
  ok = tt;
  early = tt;
  world = λ world trusted of.
      let here = c.loop-groups.invariant.world world trusted of in
      let of_next = here.1.follows.leads.of_export in
      let settled = settled_at_last world here.0 c.loop-groups.self.order c.loop-groups.self.connections c.loop-groups.groups (c.schedule_law.ensures.within here.0 of_next.reached) of_next.of_order
      c.loop-groups-test.false here.2 in
      (here.0, here.1, both_ways c.is_settled-2.result c.if-is_settled-2.false (c.is_settled-2.ensures.1 settled));
}
