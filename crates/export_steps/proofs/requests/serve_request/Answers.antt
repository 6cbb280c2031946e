use Rattle.std.proofs.Common.{◌≡◌, inl, ℕ, Result, ap, refl, sym, subst, ◌∙◌}
use Rattle.image_model.specs.declared.geometry.Geometry.{Geometry}
use Rattle.nbd_wire.specs.declared.error.Errno.{Errno}
use Rattle.nbd_wire.specs.declared.message.SessionFlags.{SessionFlags}
use Rattle.export_steps.specs.inner.Outcomes.{IsServedWith}
use Rattle.export_steps.specs.inner.Serving.{event_for, state_of}
use Rattle.export_steps.specs.inner.Steps.{IsAnyServed}
use Rattle.export_steps.proofs.DeviceReads.{any_served, verdict_ends}
use Rattle.export_steps.proofs.Serves.{served_moved}
use Rattle.export_steps.proofs.requests.serve_request.Goals as goal
use Rattle.export_model.specs.Serve.{Failure, Nothing, judged}
use Rattle.export_model.specs.Verdict.{verdict}
use Rattle.export_model.specs.declared.action.Action.{Action}
use Rattle.nbd_wire.specs.declared.head.RequestHead.{RequestHead}
use Rattle.export_model.specs.declared.connection.Connection.{Connection}
use Rattle.export_model.specs.declared.connection.Connection.TheVariants.{Closed}
use Rattle.export_model.specs.declared.event.Event.{Event}
use Rattle.export_model.specs.declared.event.Event.TheVariants.{Took}
use Rattle.export_model.specs.declared.step.Mode.{Mode}

pub returns-clause-world : goal.returns-clause-world
returns-clause-world g c = λ world within of kept terms here sure.
    let place = c.args.connection in
    let request = c.args.request in
    let old = c.args.order.now in
    let new = c.serve_or_stop-served.new.order in
    let hand = c.args.hand.now in
    let group = c.serve_or_stop-served.new.hand in
    let keeper = c.args.keeper.now in
    let next = c.serve_or_stop-served.new.keeper in
    let result = c.serve_or_stop-served.result in
    let state = g.D.Disk.state in
    let faults = g.D.Disk.faults in
    let honest = g.D.Disk.honest in
    let setting = world.stage.setting in
    let (given, given_is, by) = c.serve_or_stop-served.ensures.serves in
    let by_world = subst (λ (mode : Mode). IsServedWith state faults honest given request setting.geometry mode old new keeper next hand group result) terms.mode_is
    (subst (λ (geometry : Geometry). IsServedWith state faults honest given request geometry c.args.terms.mode old new keeper next hand group result) terms.geometry_is by) in
    let served = any_served state faults g.D.Disk.extent honest g.met.D.Disk.sound world place request old new hand group keeper next result within of kept
    c.serve_or_stop-served.ensures.honest.1 here c.serve_or_stop-served.ensures.blocks sure given by_world in
    let verdict_is = given_is ∙ ap (λ (geometry : Geometry). verdict request.head geometry c.args.terms.flags) terms.geometry_is
    ∙ ap (λ (flags : SessionFlags). verdict request.head setting.geometry flags) terms.flags_is in
    let event_is : c.event_of-event.result ≡ event_for place old.mark new.mark result =
    c.event_of-event.ensures ∙ ap (λ (n : ℕ). event_for place n c.mark.result result) c.mark-before.ensures.mark ∙ ap (λ (n : ℕ). event_for place old.mark n result) c.mark.ensures.mark in
    subst (λ (judgement : Result Action Errno). (failure : Failure) × IsAnyServed world (judged judgement failure world place request) place c.state_of.result c.event_of-event.result old new hand group
    keeper next (faults next.disk) (honest keeper.disk) (state keeper.disk) (state next.disk)) verdict_is
    (subst (λ (s : Connection). (failure : Failure) × IsAnyServed world (judged given failure world place request) place s c.event_of-event.result old new hand group
    keeper next (faults next.disk) (honest keeper.disk) (state keeper.disk) (state next.disk)) (sym c.state_of.ensures)
    (subst (λ (event : Event). (failure : Failure) × IsAnyServed world (judged given failure world place request) place (state_of result) event old new hand group
    keeper next (faults next.disk) (honest keeper.disk) (state keeper.disk) (state next.disk)) (sym event_is) served))

pub returns-then-head-eq-DISCONNECT-clause-world : goal.returns-then-head-eq-DISCONNECT-clause-world
returns-then-head-eq-DISCONNECT-clause-world g c = λ world within of kept terms here sure.
    let place = c.args.connection in
    let request = c.args.request in
    let setting = world.stage.setting in
    let kind : request.head.kind ≡ 2 = sym (ap (λ (h : RequestHead). h.kind) c.head.ensures) ∙ c.if-head-eq-DISCONNECT.true in
    let ends = verdict_ends request.head setting.geometry setting.flags kind in (
      Nothing,
      subst (λ (judgement : Result Action Errno). IsAnyServed world (judged judgement Nothing world place request) place Closed Took c.args.order.now c.args.order.now c.args.hand.now c.args.hand.now
          c.args.keeper.now c.args.keeper.now (g.D.Disk.faults c.args.keeper.now.disk) (g.D.Disk.honest c.args.keeper.now.disk) (g.D.Disk.state c.args.keeper.now.disk) (g.D.Disk.state c.args.keeper.now.disk)) (sym ends)
          (inl (refl, refl, served_moved world place request c.args.order.now c.args.hand.now of Closed Took, λ shown. shown)),
    )
