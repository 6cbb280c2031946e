use Rattle.std.proofs.Common.{◌≡◌, inl, inr, ℕ, ◌++◌, List, [], ◌∷◌, ap, sym, subst, ◌∙◌}
use Rattle.nbd_wire.specs.declared.message.Answer.{Answer}
use Rattle.export_steps.specs.Life.{Trusts}
use Rattle.export_model.specs.declared.connection.Connection.TheVariants.{Idle}
use Rattle.export_model.specs.declared.event.Event.{Event}
use Rattle.export_model.specs.declared.event.Event.TheVariants.{Answered, Skipped}
use Rattle.export_model.specs.declared.step.Step.TheVariants as steps
use Rattle.export_model.specs.Step.{after_step}
use Rattle.export_model.specs.World.{World}
use Rattle.nbdj_pipe.specs.inner.Export.{Follows, IsGiven, IsWaiting}
use Rattle.nbdj_pipe.specs.Talk.{spoken}
use Rattle.nbdj_pipe.proofs.Steps.{IsAnsweredAs, answered_as, last_same}
use Rattle.nbdj_pipe.proofs.export.Export.try_answer.Goals as goal

-- what was answered, by the event
gave : (world next : World) (event : Event) (answer : Answer) (c : ℕ) → IsAnsweredAs world (world.connections 0) next → next.log ≡ world.log ++ event ∷ [] → event ≡ Answered c answer
    → (next.connections 0 ≡ Idle) × IsGiven (world.connections 0) answer × (event ≡ Answered 0 answer)
gave world next event answer c (inl held) log is =
    let same = last_same world.log event Skipped (sym log ∙ ap (λ (w : World). w.log) held.0) in absurd (apart (sym is ∙ same))
  where
    apart : Answered c answer ≡ Skipped → ⊥
    apart is = cc
gave world next event answer c (inr (given, answered, fits)) log is =
    let same = last_same world.log event (Answered 0 given) (sym log ∙ ap (λ (w : World). w.log) answered) in
    let own = given_is (sym is ∙ same) in (
      ap (λ (w : World). w.connections 0) answered,
      subst (IsGiven (world.connections 0)) (sym own) fits,
      same ∙ ap (Answered 0) (sym own),
    )
  where
    given_is : Answered c answer ≡ Answered 0 given → answer ≡ given
    given_is is = cc

-- nothing was answered, by the event
gave_none : (world next : World) (event : Event) → IsAnsweredAs world (world.connections 0) next → next.log ≡ world.log ++ event ∷ [] → ((c : ℕ) (answer : Answer) → event ≡ Answered c answer → ⊥)
    → (next.connections ≡ world.connections) × IsWaiting world × (spoken (event ∷ []) ≡ [])
gave_none world next event (inl (held, works, (number, waits, above))) log other =
    let same = last_same world.log event Skipped (sym log ∙ ap (λ (w : World). w.log) held) in
    (ap (λ (w : World). w.connections) held, record { works = works; number = number; waits = waits; above = above }, ap (λ (e : Event). spoken (e ∷ [])) same)
gave_none world next event (inr (given, answered, fits)) log other =
    absurd (other 0 given (last_same world.log event (Answered 0 given) (sym log ∙ ap (λ (w : World). w.log) answered)))

pub returns-in-Answered-clause-world : goal.returns-in-Answered-clause-world
returns-in-Answered-clause-world g c = λ world trusted head of awaits.
    let old = c.args.self.now.keeper in
    let new = c.step.new.self.keeper in
    let done = c.step.ensures.world world trusted of in
    let next = after_step world (steps.Answer 0) done.0 in
    let given = gave world next c.step.result c.in-Answered.answer c.in-Answered.field-0 (answered_as world head (world.connections 0) awaits) done.1 c.in-Answered.is in (
      next,
      (given.0, given.1),
      subst (λ (said : List Event). Follows world next said c.step.new.self.order new (g.D.Disk.faults new.disk) c.step.new.self.connections
          (Trusts trusted (g.D.Disk.honest new.disk)) (g.D.Disk.state old.disk) (g.D.Disk.state new.disk)) (ap (λ (e : Event). spoken (e ∷ [])) given.2) done.2,
    )

pub returns-clause-world : goal.returns-clause-world
returns-clause-world g c = λ world trusted head of awaits.
    let old = c.args.self.now.keeper in
    let new = c.step.new.self.keeper in
    let done = c.step.ensures.world world trusted of in
    let next = after_step world (steps.Answer 0) done.0 in
    let none = gave_none world next c.step.result (answered_as world head (world.connections 0) awaits) done.1 (λ k answer is. c.in_default.not-Answered k answer is) in (
      next,
      (none.0, none.1),
      subst (λ (said : List Event). Follows world next said c.step.new.self.order new (g.D.Disk.faults new.disk) c.step.new.self.connections
          (Trusts trusted (g.D.Disk.honest new.disk)) (g.D.Disk.state old.disk) (g.D.Disk.state new.disk)) none.2 done.2,
    )
