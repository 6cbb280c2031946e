use Rattle.std.proofs.Common.{◌≡◌, ◌++◌, ◌∷◌, [], List, sym, ◌∙◌, ap, subst}
use Rattle.std.proofs.lemmas.List.{set_at}
use Rattle.std.proofs.Math.ListN.{set}
use Rattle.export_steps.specs.Bench.{BenchState, ConnectionsState}
use Rattle.export_steps.specs.Life.{Trusts}
use Rattle.export_steps.specs.Parts.{IsExportOf}
use Rattle.export_model.specs.declared.event.Event.{Event}
use Rattle.export_model.specs.declared.event.Event.TheVariants.{Skipped}
use Rattle.export_steps.proofs.rehearsal.carry_out.Goals as goal

pub returns-clause-world : goal.returns-clause-world
returns-clause-world g c = λ world trusted of.
    let old = c.args.keeper.now in
    let inside = c.bench.inside in
    let view = c.bench.view_is in
    let event = c.take_step-event.result in
    let here = subst (λ (connections : ConnectionsState). IsExportOf world c.args.order.now old (g.D.Disk.faults old.disk) connections (Trusts trusted (g.D.Disk.honest old.disk)) (g.D.Disk.state old.disk))
    (sym (ap (λ (b : BenchState). b.connections) view)) of.of_export in
    let taken = c.take_step-event.ensures.world world trusted here in
    let log_is : set c.push.new.self.items c.len-place.result event ≡ world.log ++ event ∷ [] =
    ap (λ (l : List Event). set l c.len-place.result event) c.in_ok-push.ensures.items
    ∙ (set_at inside.log.items Skipped [] event c.len-place.result (sym (c.len-place.ensures ∙ inside.log.ok.0))
    ∙ ap (λ (l : List Event). l ++ event ∷ []) (ap (λ (b : BenchState). b.log) view ∙ of.log)) in
    (taken.0, event, log_is ∙ sym taken.1.log, taken.1)
