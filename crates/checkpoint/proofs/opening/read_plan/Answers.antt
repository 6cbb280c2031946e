use Rattle.std.proofs.lemmas.Result.{IfOk-from_err}
use Rattle.checkpoint.proofs.opening.read_plan.Goals as goal

pub returns-in_err-area-clause-faults_ok : goal.returns-in_err-area-clause-faults_ok
returns-in_err-area-clause-faults_ok g c =
    IfOk-from_err c.from_residual.result _ c.from_residual.ensures.0

pub returns-in_err-area-clause-placed : goal.returns-in_err-area-clause-placed
returns-in_err-area-clause-placed g c =
    IfOk-from_err c.from_residual.result _ c.from_residual.ensures.0

pub returns-in_err-area-clause-uncopied : goal.returns-in_err-area-clause-uncopied
returns-in_err-area-clause-uncopied g c =
    IfOk-from_err c.from_residual.result _ c.from_residual.ensures.0

pub returns-in_err-touches-clause-faults_ok : goal.returns-in_err-touches-clause-faults_ok
returns-in_err-touches-clause-faults_ok g c =
    IfOk-from_err c.from_residual-in_err-touches.result _ c.from_residual-in_err-touches.ensures.0

pub returns-in_err-touches-clause-placed : goal.returns-in_err-touches-clause-placed
returns-in_err-touches-clause-placed g c =
    IfOk-from_err c.from_residual-in_err-touches.result _ c.from_residual-in_err-touches.ensures.0

pub returns-in_err-touches-clause-uncopied : goal.returns-in_err-touches-clause-uncopied
returns-in_err-touches-clause-uncopied g c =
    IfOk-from_err c.from_residual-in_err-touches.result _ c.from_residual-in_err-touches.ensures.0

pub returns-in_err-area-clause-extent : goal.returns-in_err-area-clause-extent
returns-in_err-area-clause-extent g c =
    c.in_err-area.ensures.extent

pub returns-in_err-area-clause-honest : goal.returns-in_err-area-clause-honest
returns-in_err-area-clause-honest g c =
    c.in_err-area.ensures.honest

pub returns-in_err-area-clause-only_read : goal.returns-in_err-area-clause-only_read
returns-in_err-area-clause-only_read g c =
    c.in_err-area.ensures.only_read

pub returns-in_err-touches-clause-extent : goal.returns-in_err-touches-clause-extent
returns-in_err-touches-clause-extent g c =
    c.in_ok-area.ensures.extent

pub returns-in_err-touches-clause-honest : goal.returns-in_err-touches-clause-honest
returns-in_err-touches-clause-honest g c =
    c.in_ok-area.ensures.honest

pub returns-in_err-touches-clause-only_read : goal.returns-in_err-touches-clause-only_read
returns-in_err-touches-clause-only_read g c =
    c.in_ok-area.ensures.only_read

pub returns-clause-extent : goal.returns-clause-extent
returns-clause-extent g c =
    c.in_ok-area.ensures.extent

pub returns-clause-honest : goal.returns-clause-honest
returns-clause-honest g c =
    c.in_ok-area.ensures.honest

pub returns-clause-only_read : goal.returns-clause-only_read
returns-clause-only_read g c =
    c.in_ok-area.ensures.only_read

pub returns-clause-faults_ok : goal.returns-clause-faults_ok
returns-clause-faults_ok g c =
    c.in_ok-area.ensures.faults_ok

pub returns-clause-faults_err : goal.returns-clause-faults_err
returns-clause-faults_err g c =
    tt
