use Rattle.std.proofs.Common.{◌++◌, ◌∷◌, [], ℕ, List, ap, ◌∙◌, arith, length, replicate}
use Rattle.std.proofs.lemmas.List.{length-replicate, replicate_more}
use Rattle.export_model.specs.declared.connection.Connection.{Connection}
use Rattle.export_model.specs.declared.connection.Connection.TheVariants.{Idle}
use Rattle.export_steps.proofs.connections.idle.Goals as goal

pub loop-place-preserved : goal.loop-place-preserved
loop-place-preserved c =
    c.in_ok-push.ensures.items ∙ ap (λ (states : List Connection). states ++ Idle ∷ []) c.loop-place.invariant ∙ replicate_more c.loop-place.place Idle

pub returns-clause-states : goal.returns-clause-states
returns-clause-states c =
    c.loop-place.invariant ∙ ap (λ (count : ℕ). replicate count Idle) (omega (arith, c.loop-place.auto.place-end, c.loop-place-test.false))

pub returns-clause-size : goal.returns-clause-size
returns-clause-size c =
    omega (arith, c.loop-place.states.ok.0, ap length c.loop-place.invariant, length-replicate c.loop-place.place Idle, c.loop-place.auto.place-end, c.loop-place-test.false)
