use Rattle.std.proofs.Common.{take}
use Rattle.checkpoint.specs.inner.Report.{AreStatesTurned}
use Rattle.checkpoint.proofs.report.states_after_plans.Given as goal

abbrev pub invariant-loop-plan : goal.invariant-loop-plan
invariant-loop-plan l = AreStatesTurned (take l.plan-index l.plans.items) l.fn.map l.turned
