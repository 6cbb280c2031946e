use Rattle.std.proofs.Common.{◌++◌, ◌∷◌, [], List, take, Result, Ok, Err, OnOk, IsErrAnd, sym, ◌∙◌, ap, subst, refl, arith}
use Rattle.std.proofs.lemmas.List.{take_more}
use Rattle.device_image.specs.Keeper.{KeeperState}
use Rattle.order_book.specs.Order.{OrderState}
use Rattle.export_steps.specs.Bench.{BenchState}
use Rattle.export_steps.specs.Life.{Leads, Trusts}
use Rattle.export_steps.proofs.Runs.{leads_none, leads_on, leads_step, rehearsed, trusted_honest, trusts_as}
use Rattle.export_model.specs.declared.step.Step.{Step}
use Rattle.export_model.specs.Step.{after_step}
use Rattle.export_steps.proofs.rehearsal.rehearse.Goals as goal
use Rattle.image_model.specs.declared.geometry.Geometry.{Geometry}

pub loop-step-init : goal.loop-step-init
loop-step-init g c =
    let keeper = c.args.keeper.now in
    record {
      group = c.requires.group;
      blocks = refl;
      geometry = refl;
      extent = refl;
      honest = (λ is. is, λ is. is);
      stored = λ is. is;
      world = λ world trusted of. (
        world,
        of.log,
        leads_none world c.args.order.now keeper (g.D.Disk.faults keeper.disk) c.args.bench.now.connections (g.D.Disk.extent keeper.disk) (Trusts trusted (g.D.Disk.honest keeper.disk)) (g.D.Disk.state keeper.disk)
            (λ trusts. g.met.D.Disk.sound keeper.disk (trusted_honest trusted (g.D.Disk.honest keeper.disk) trusts)) (c.schedule_law.ensures.within world of.of_export.reached) of.of_export,
      );
    }

pub loop-step-preserved : goal.loop-step-preserved
loop-step-preserved g c =
    let old = c.args.keeper.now in
    let now = c.loop-step.keeper in
    let new = c.carry_out.new.keeper in
    let steps = c.args.steps.now in
    let index = c.loop-step.step-index in
    let step = c.step-item.result in
    let taken = take_more steps index step c.loop-step-test.true ∙ ap (λ (s : Step). take index steps ++ s ∷ []) (sym c.step-item.is) in
    record {
      group = c.in_ok-carry_out.ensures.group;
      blocks = c.carry_out.ensures.blocks ∙ c.loop-step.invariant.blocks;
      geometry = c.carry_out.ensures.geometry ∙ c.loop-step.invariant.geometry;
      extent = c.carry_out.ensures.extent ∙ c.loop-step.invariant.extent;
      honest = (λ is. c.loop-step.invariant.honest.0 (c.carry_out.ensures.honest.0 is), λ is. c.carry_out.ensures.honest.1 (c.loop-step.invariant.honest.1 is));
      stored = λ is. c.carry_out.ensures.stored (c.loop-step.invariant.stored is);
      world = λ world trusted of.
          let here = c.loop-step.invariant.world world trusted of in
          let next = here.0 in
          let so_far = here.2 in
          let law = c.schedule_law.ensures in
          let carried = c.in_ok-carry_out.ensures.world next trusted (record { of_export = so_far.of_export; log = here.1 }) in
          let grows = law.grows world next (take index steps) so_far.run in
          let grows_on = law.grows next (after_step next step carried.0) (step ∷ []) (carried.0, refl) in
          let one = leads_step next step carried.0 carried.1 c.carry_out.new.order new (g.D.Disk.faults new.disk) c.carry_out.new.bench.connections
          (Trusts trusted (g.D.Disk.honest new.disk)) (g.D.Disk.state now.disk) (g.D.Disk.state new.disk) carried.3 grows_on (law.within next so_far.of_export.reached) in (
            after_step next step carried.0,
            carried.2,
            subst (λ (done : List Step). Leads world (after_step next step carried.0) done c.carry_out.new.order new (g.D.Disk.faults new.disk) c.carry_out.new.bench.connections
                (Trusts trusted (g.D.Disk.honest new.disk)) (g.D.Disk.state old.disk) (g.D.Disk.state new.disk)) (sym taken)
                (leads_on world next (after_step next step carried.0) (take index steps) (step ∷ []) c.loop-step.order c.carry_out.new.order now new (g.D.Disk.faults now.disk) (g.D.Disk.faults new.disk)
                c.loop-step.bench.connections c.carry_out.new.bench.connections (Trusts trusted (g.D.Disk.honest now.disk)) (Trusts trusted (g.D.Disk.honest new.disk)) (g.D.Disk.state old.disk) (g.D.Disk.state now.disk) (g.D.Disk.state new.disk)
                (trusts_as trusted (g.D.Disk.honest new.disk) (g.D.Disk.honest now.disk) c.carry_out.ensures.honest.0) so_far one grows grows_on),
          );
    }

pub returns-clause-world : goal.returns-clause-world
returns-clause-world g c = λ world trusted of.
    let old = c.args.keeper.now in
    let new = c.loop-step.keeper in
    let steps = c.args.steps.now in
    let index = c.loop-step.step-index in
    let here = c.loop-step.invariant.world world trusted of in
    let next = here.0 in
    let so_far = here.2 in
    let law = c.schedule_law.ensures in (
      next,
      index,
      c.loop-step.auto.step-index-end,
      omega (arith, c.loop-step.auto.step-index-end, c.loop-step-test.false),
      rehearsed world next (take index steps) c.loop-step.order new (g.D.Disk.faults new.disk) c.loop-step.bench (g.D.Disk.extent new.disk) (Trusts trusted (g.D.Disk.honest new.disk)) (g.D.Disk.state old.disk) (g.D.Disk.state new.disk)
          so_far here.1 (λ trusts. g.met.D.Disk.sound new.disk (trusted_honest trusted (g.D.Disk.honest new.disk) trusts)) (law.grows world next (take index steps) so_far.run) (law.within next so_far.of_export.reached)
          (law.covered world of.of_export.reached) (law.covered next so_far.of_export.reached) (law.legal next so_far.of_export.reached) (law.fits next so_far.of_export.reached) (law.edits next so_far.of_export.reached),
    )

-- an answer that is an error says nothing of Ok
no_ok : {T E : Type 0} (Q : E → Type 0) (P : Type 0) (answer : Result T E) → IsErrAnd answer Q → OnOk answer P
no_ok Q P (Ok value) is = absurd is
no_ok Q P (Err error) is = tt

pub returns-in_err-carry_out-clause-world : goal.returns-in_err-carry_out-clause-world
returns-in_err-carry_out-clause-world g c = λ world trusted of.
    let old = c.args.keeper.now in
    let new = c.carry_out.new.keeper in
    let steps = c.args.steps.now in
    let index = c.loop-step.step-index in
    let here = c.loop-step.invariant.world world trusted of in
    let next = here.0 in
    let same = c.in_err-carry_out.ensures.err in
    let so_far = subst (λ (b : BenchState). Leads world next (take index steps) c.carry_out.new.order new (g.D.Disk.faults new.disk) b.connections (Trusts trusted (g.D.Disk.honest new.disk)) (g.D.Disk.state old.disk) (g.D.Disk.state new.disk)) (sym same.2)
    (subst (λ (k : KeeperState g.row.D.Denot). Leads world next (take index steps) c.carry_out.new.order k (g.D.Disk.faults k.disk) c.loop-step.bench.connections (Trusts trusted (g.D.Disk.honest k.disk)) (g.D.Disk.state old.disk) (g.D.Disk.state k.disk)) (sym same.1)
    (subst (λ (o : OrderState). Leads world next (take index steps) o c.loop-step.keeper (g.D.Disk.faults c.loop-step.keeper.disk) c.loop-step.bench.connections (Trusts trusted (g.D.Disk.honest c.loop-step.keeper.disk)) (g.D.Disk.state old.disk) (g.D.Disk.state c.loop-step.keeper.disk)) (sym same.0)
    here.2)) in
    let law = c.schedule_law.ensures in (
      next,
      index,
      c.loop-step.auto.step-index-end,
      no_ok _ _ c.from_residual.result c.from_residual.ensures.1,
      rehearsed world next (take index steps) c.carry_out.new.order new (g.D.Disk.faults new.disk) c.carry_out.new.bench (g.D.Disk.extent new.disk) (Trusts trusted (g.D.Disk.honest new.disk)) (g.D.Disk.state old.disk) (g.D.Disk.state new.disk)
          so_far (ap (λ (b : BenchState). b.log) same.2 ∙ here.1) (λ trusts. g.met.D.Disk.sound new.disk (trusted_honest trusted (g.D.Disk.honest new.disk) trusts)) (law.grows world next (take index steps) so_far.run) (law.within next so_far.of_export.reached)
          (law.covered world of.of_export.reached) (law.covered next so_far.of_export.reached) (law.legal next so_far.of_export.reached) (law.fits next so_far.of_export.reached) (law.edits next so_far.of_export.reached),
    )

pub carry_out-requires-clause-blocks : goal.carry_out-requires-clause-blocks
carry_out-requires-clause-blocks g c =
    let loop = c.loop-step.invariant in
    loop.blocks ∙ c.requires.blocks ∙ ap (λ (size : Geometry). size.blocks) (sym loop.geometry)

pub returns-in_err-carry_out-clause-blocks : goal.returns-in_err-carry_out-clause-blocks
returns-in_err-carry_out-clause-blocks g c = c.carry_out.ensures.blocks ∙ c.loop-step.invariant.blocks

pub returns-in_err-carry_out-clause-geometry : goal.returns-in_err-carry_out-clause-geometry
returns-in_err-carry_out-clause-geometry g c = c.carry_out.ensures.geometry ∙ c.loop-step.invariant.geometry

pub returns-clause-blocks : goal.returns-clause-blocks
returns-clause-blocks g c = c.loop-step.invariant.blocks

pub returns-clause-geometry : goal.returns-clause-geometry
returns-clause-geometry g c = c.loop-step.invariant.geometry
