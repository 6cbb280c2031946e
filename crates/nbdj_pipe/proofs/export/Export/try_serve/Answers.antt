use Rattle.std.proofs.Common.{◌≡◌, inl, inr, List, [], ◌∷◌, ◌++◌, Result, ap, sym, subst, ◌∙◌}
use Rattle.nbd_wire.specs.Request.{Message}
use Rattle.nbd_wire.specs.declared.error.Errno.{Errno}
use Rattle.export_steps.specs.Life.{Trusts}
use Rattle.export_model.specs.declared.action.Action.{Action}
use Rattle.export_model.specs.declared.connection.Connection.{Connection}
use Rattle.export_model.specs.declared.connection.Connection.TheVariants.{Requested}
use Rattle.export_model.specs.declared.event.Event.{Event}
use Rattle.export_model.specs.declared.event.Event.TheVariants.{Skipped}
use Rattle.export_model.specs.declared.step.Step.TheVariants as steps
use Rattle.export_model.specs.Serve.{Failure, serve}
use Rattle.export_model.specs.Step.{after_step}
use Rattle.export_model.specs.World.{World}
use Rattle.export_model.specs.laws.Steps.{passes_write}
use Rattle.nbdj_pipe.specs.inner.Causes.{LacksRoom}
use Rattle.nbdj_pipe.specs.inner.Export.{Follows, IsJudged}
use Rattle.nbdj_pipe.specs.Talk.{spoken, verdict_on}
use Rattle.nbdj_pipe.proofs.Steps.{IsServedAs, last_same, served_as}
use Rattle.nbdj_pipe.proofs.export.Export.try_serve.Goals as goal

-- a request was served, or there is no room for its command
as_served : (world : World) (failure : Failure) (request : Message) → world.connections 0 ≡ Requested request
    → IsServedAs world request (verdict_on request.head world.stage.setting.geometry world.stage.setting.flags) (after_step world (steps.Serve 0) failure)
unfolding verdict_on
as_served world failure request is = subst (λ (s : Connection). IsServedAs world request (verdict_on request.head world.stage.setting.geometry world.stage.setting.flags) (serve failure world 0 s)) (sym is)
    (served_as world failure request (verdict_on request.head world.stage.setting.geometry world.stage.setting.flags)
    (passes_write request.head world.stage.setting.geometry world.stage.setting.flags))

no_room : (world next : World) (request : Message) (event : Event) → IsServedAs world request (verdict_on request.head world.stage.setting.geometry world.stage.setting.flags) next
    → next.log ≡ world.log ++ event ∷ [] → event ≡ Skipped → (next.connections ≡ world.connections) × (next.stage ≡ world.stage) × LacksRoom world request × (spoken (event ∷ []) ≡ [])
no_room world next request event (inl (held, judged, works, write, failure, full)) log is =
    (ap (λ (w : World). w.connections) held, ap (λ (w : World). w.stage) held, record { works = works; judged = judged; write = write; failure = failure; full = full }, ap (λ (e : Event). spoken (e ∷ [])) is)
no_room world next request event (inr (judged, (own, logged, quiet, other))) log is = absurd (other (sym (last_same world.log event own (sym log ∙ logged)) ∙ is))

is_judged : (world next : World) (request : Message) (given : Result Action Errno) (event : Event) → IsServedAs world request given next → next.log ≡ world.log ++ event ∷ [] → (event ≡ Skipped → ⊥)
    → IsJudged request.head given (next.connections 0) × (spoken (event ∷ []) ≡ [])
is_judged world next request given event (inl held) log other = absurd (other (last_same world.log event Skipped (sym log ∙ ap (λ (w : World). w.log) held.0)))
is_judged world next request given event (inr (judged, (own, logged, quiet, unlike))) log other =
    (judged, ap (λ (e : Event). spoken (e ∷ [])) (last_same world.log event own (sym log ∙ logged)) ∙ quiet)

pub returns-clause-world : goal.returns-clause-world
returns-clause-world g c = λ world trusted request of sent.
    let old = c.args.self.now.keeper in
    let new = c.step.new.self.keeper in
    let done = c.step.ensures.world world trusted of in
    let next = after_step world (steps.Serve 0) done.0 in
    let is = is_judged world next request (verdict_on request.head world.stage.setting.geometry world.stage.setting.flags) c.step.result (as_served world done.0 request sent) done.1 (λ held. c.in_default.not-Skipped held) in (
      next,
      is.0,
      subst (λ (said : List Event). Follows world next said c.step.new.self.order new (g.D.Disk.faults new.disk) c.step.new.self.connections
          (Trusts trusted (g.D.Disk.honest new.disk)) (g.D.Disk.state old.disk) (g.D.Disk.state new.disk)) is.1 done.2,
    )

pub returns-in-Skipped-clause-world : goal.returns-in-Skipped-clause-world
returns-in-Skipped-clause-world g c = λ world trusted request of sent.
    let old = c.args.self.now.keeper in
    let new = c.step.new.self.keeper in
    let done = c.step.ensures.world world trusted of in
    let next = after_step world (steps.Serve 0) done.0 in
    let is = no_room world next request c.step.result (as_served world done.0 request sent) done.1 c.in-Skipped.is in (
      next,
      (is.0, is.1, is.2),
      subst (λ (said : List Event). Follows world next said c.step.new.self.order new (g.D.Disk.faults new.disk) c.step.new.self.connections
          (Trusts trusted (g.D.Disk.honest new.disk)) (g.D.Disk.state old.disk) (g.D.Disk.state new.disk)) is.3 done.2,
    )
