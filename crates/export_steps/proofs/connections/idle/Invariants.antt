use Rattle.std.proofs.Common.{◌≡◌, replicate}
use Rattle.export_model.specs.declared.connection.Connection.TheVariants.{Idle}
use Rattle.export_steps.proofs.connections.idle.Given as goal

abbrev pub invariant-loop-place : goal.invariant-loop-place
invariant-loop-place l = l.states.items ≡ replicate l.place Idle
