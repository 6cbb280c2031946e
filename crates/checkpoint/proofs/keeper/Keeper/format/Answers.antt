use Rattle.std.proofs.Common.{inl}
use Rattle.std.proofs.lemmas.Result.{IfOk-from_err}
use Rattle.disk_model.specs.laws.Moments.{begins}
use Rattle.checkpoint.proofs.keeper.Keeper.format.Goals as goal

pub returns-in_err-map-clause-any_moment : goal.returns-in_err-map-clause-any_moment
returns-in_err-map-clause-any_moment g c honest =
    begins (g.met.D.Disk.sound c.args.disk.now honest)
    (λ content left. inl (record { size = left.size; bytes = left.bytes; same = λ place synced zero one. left.same place synced }))

pub returns-in_err-map-clause-faults_ok : goal.returns-in_err-map-clause-faults_ok
returns-in_err-map-clause-faults_ok g c =
    IfOk-from_err c.from_residual.result _ c.from_residual.ensures.0

pub returns-in_err-map-clause-synced : goal.returns-in_err-map-clause-synced
returns-in_err-map-clause-synced g c given =
    IfOk-from_err c.from_residual.result _ c.from_residual.ensures.0

pub returns-in_err-map-clause-formatted : goal.returns-in_err-map-clause-formatted
returns-in_err-map-clause-formatted g c given =
    IfOk-from_err c.from_residual.result _ c.from_residual.ensures.0

pub returns-in_err-write_device-clause-faults_ok : goal.returns-in_err-write_device-clause-faults_ok
returns-in_err-write_device-clause-faults_ok g c =
    IfOk-from_err c.from_residual-in_err-write_device.result _ c.from_residual-in_err-write_device.ensures.0

pub returns-in_err-write_device-clause-synced : goal.returns-in_err-write_device-clause-synced
returns-in_err-write_device-clause-synced g c given =
    IfOk-from_err c.from_residual-in_err-write_device.result _ c.from_residual-in_err-write_device.ensures.0

pub returns-in_err-write_device-clause-formatted : goal.returns-in_err-write_device-clause-formatted
returns-in_err-write_device-clause-formatted g c given =
    IfOk-from_err c.from_residual-in_err-write_device.result _ c.from_residual-in_err-write_device.ensures.0
