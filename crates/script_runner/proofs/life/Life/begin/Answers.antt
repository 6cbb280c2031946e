use Rattle.std.proofs.Common.{◌≡◌, ◌∙◌, true, ap, sym, subst, refl, length, Option, None, Some}
use Rattle.std.proofs.Math.Logic.{∥∥₁_map}
use Rattle.nbd_wire.specs.declared.message.SessionFlags.{SessionFlags}
use Rattle.order_book.specs.Order.{OrderState}
use Rattle.order_book.specs.Shown.{ShowsImage}
use Rattle.export_steps.specs.Bench.{BenchState, new_bench}
use Rattle.export_steps.specs.Life.{first_world}
use Rattle.export_steps.specs.Parts.{IsWorldOf}
use Rattle.script_runner.proofs.life.Life.begin.Goals as goal

pub invariant_of-result : goal.invariant_of-result
invariant_of-result g c =
    let disk = g.D.Disk in
    let keeper = c.args.keeper in
    let setup = c.args.setup in
    let flags : SessionFlags = record { structured = true; context = true } in
    let (states, size, order_is) = c.in-Ok.ensures.order in
    let bench_is = c.in-Ok.ensures.bench in
    record {
      in_hand = λ x is. absurd (none (sym (ap (λ (b : BenchState). b.connections.group) bench_is) ∙ is));
      blocks = ap (λ (o : OrderState). length o.cache.states) order_is ∙ size;
      of_world = ∥∥₁_map c.requires.keeps (λ kept honest.
          let (found, keeps) = kept honest in
          let world = first_world true keeper found (disk.faults keeper.disk) setup.frames 16 flags setup.mode in (
            world,
            subst (λ (bench : BenchState). IsWorldOf world c.in-Ok.order keeper (disk.faults keeper.disk) bench (disk.honest keeper.disk) (disk.state keeper.disk)) (sym bench_is)
                (subst (λ (order : OrderState). IsWorldOf world order keeper (disk.faults keeper.disk) (new_bench 16 flags setup.mode) (disk.honest keeper.disk) (disk.state keeper.disk)) (sym order_is)
                (record {
                  of_export = c.fresh_parts_law.ensures true keeper found states setup.frames 16 flags setup.mode c.requires.recovered size c.in-Ok.ensures.count (λ trusts. keeps)
                      (λ trusts. subst (λ (o : OrderState). ShowsImage found o.cache) order_is
                      (c.in-Ok.ensures.image found (c.keeper_laws.ensures.empty keeper found keeper.count keeps c.requires.recovered.phase c.requires.recovered.used)))
                      (λ trusts. honest);
                  log = refl;
                })),
          ));
    }
  where
    none : {X : Type 0} {x : X} → (let o : Option X = None in o ≡ Some x) → ⊥
    none is = cc
