-- Which of the coming calls of a simulated device fail.
use Rattle.std.specs.Prelude.{ℕ, ◌-◌, Bool, false, ◌==◌, ◌||◌}
use Rattle.disk_model.specs.declared.fault_plan.CallKind.{CallKind}
use Rattle.disk_model.specs.declared.fault_plan.CallKind.TheVariants.{Read, Write, Sync}
use Rattle.disk_model.specs.declared.fault_plan.FaultPlan.{FaultPlan}

-- nothing armed
abbrev pub no_faults : FaultPlan
no_faults = record { reads = 0; writes = 0; syncs = 0; stop = 0; stopped = false }

-- the k-th coming call of the kind fails, in place of one armed before
abbrev pub armed : CallKind → ℕ → FaultPlan → FaultPlan
armed Read k plan = record plan { reads = k }
armed Write k plan = record plan { writes = k }
armed Sync k plan = record plan { syncs = k }

-- in how many calls of the kind one fails; 0 where none is armed
abbrev pub calls_left : CallKind → FaultPlan → ℕ
calls_left Read plan = plan.reads
calls_left Write plan = plan.writes
calls_left Sync plan = plan.syncs

-- a stop was met and no crash came since, or the next call meets one
abbrev pub is_stopping : FaultPlan → Bool
is_stopping plan = plan.stopped || (plan.stop == 1)

-- whether the next call fails if it is of this kind
abbrev pub is_due : CallKind → FaultPlan → Bool
is_due kind plan = (calls_left kind plan == 1) || is_stopping plan

-- after one call of the kind
abbrev pub after_call : CallKind → FaultPlan → FaultPlan
after_call kind plan = armed kind (calls_left kind plan - 1) (record plan { stop = plan.stop - 1; stopped = is_stopping plan })
