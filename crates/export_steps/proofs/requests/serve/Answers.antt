use Rattle.std.proofs.Common.{◌≡◌, inl, None, List, get_or, refl, sym, ◌∙◌, ap, subst}
use Rattle.std.proofs.Math.ListN.{set}
use Rattle.export_steps.specs.inner.Serving.{request_in}
use Rattle.export_steps.specs.inner.Steps.{IsAnyTalked}
use Rattle.export_steps.proofs.DeviceReads.{any_talked, serve_none}
use Rattle.export_steps.proofs.Talks.{open_unlike, request_found, talked_held, within_list}
use Rattle.export_model.specs.Serve.{Nothing, serve}
use Rattle.export_model.specs.World.{World}
use Rattle.export_model.specs.declared.connection.Connection.{Connection}
use Rattle.export_model.specs.declared.connection.Connection.TheVariants.{Closed, Idle, Requested}
use Rattle.export_model.specs.declared.event.Event.TheVariants.{Skipped}
use Rattle.export_steps.proofs.requests.serve.Goals as goal

pub returns-in_default-clause-world : goal.returns-in_default-clause-world
returns-in_default-clause-world g c = λ world within of kept terms same sure.
    let items = c.args.states.now.items in
    let place = c.args.connection in
    let none : request_in (world.connections place) ≡ None = ap request_in (sym (same place)) ∙ (sym c.take_request.ensures.request ∙ c.in_default.is) in (
      Nothing,
      subst (λ (after : World). IsAnyTalked world after c.take_request.new.states.items Skipped c.args.order.now c.args.order.now c.args.hand.now c.args.hand.now c.args.keeper.now c.args.keeper.now
          (g.D.Disk.faults c.args.keeper.now.disk) (g.D.Disk.honest c.args.keeper.now.disk) (g.D.Disk.state c.args.keeper.now.disk) (g.D.Disk.state c.args.keeper.now.disk))
          (sym (serve_none world place (world.connections place) none))
          (inl (refl, refl, talked_held world items c.take_request.new.states.items place Skipped c.args.order.now c.args.hand.now of same c.in_default.ensures.none refl, λ shown. shown)),
    )

pub returns-clause-world : goal.returns-clause-world
returns-clause-world g c = λ world within of kept terms same sure.
    let items = c.args.states.now.items in
    let place = c.args.connection in
    let request = c.in-Some.request in
    let found = request_found (get_or items place Closed) request c.in-Some.ensures.request in
    let here : world.connections place ≡ Requested request = sym (same place) ∙ found in
    let served = c.serve_request-state.ensures.world world within of kept terms here sure in
    let below = within_list items place (λ closed. open_unlike request (sym found ∙ closed)) in (
      served.0,
      subst (λ (l : List Connection). IsAnyTalked world (serve served.0 world place (world.connections place)) (set l place c.serve_request-state.result.0) c.serve_request-state.result.1
          c.args.order.now c.serve_request-state.new.order c.args.hand.now c.serve_request-state.new.hand c.args.keeper.now c.serve_request-state.new.keeper (g.D.Disk.faults c.serve_request-state.new.keeper.disk)
          (g.D.Disk.honest c.args.keeper.now.disk) (g.D.Disk.state c.args.keeper.now.disk) (g.D.Disk.state c.serve_request-state.new.keeper.disk)) (sym c.in-Some.ensures.taken)
          (any_talked world served.0 items place request c.serve_request-state.result.0 Idle c.serve_request-state.result.1 c.args.order.now c.serve_request-state.new.order c.args.hand.now c.serve_request-state.new.hand
          c.args.keeper.now c.serve_request-state.new.keeper (g.D.Disk.faults c.serve_request-state.new.keeper.disk) (g.D.Disk.honest c.args.keeper.now.disk) (g.D.Disk.state c.args.keeper.now.disk)
          (g.D.Disk.state c.serve_request-state.new.keeper.disk) same below here served.1),
    )
