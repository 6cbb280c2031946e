use Rattle.std.proofs.Common.{◌∙◌, ap, sym}
use Rattle.std.proofs.lemmas.Result.{IfOk-from_err}
use Rattle.disk_model.specs.Faults.{faults_after}
use Rattle.checkpoint.proofs.ExcludedRefusals.{both_ways, failed_counted}
use Rattle.checkpoint.proofs.device_steps.copy_over.Goals as goal

pub returns-in_err-read-clause-copied : goal.returns-in_err-read-clause-copied
returns-in_err-read-clause-copied g c honest steady =
    IfOk-from_err c.from_residual.result _ c.from_residual.ensures.0

pub returns-clause-honest : goal.returns-clause-honest
returns-clause-honest g c =
    both_ways c.write_blocks.ensures.honest c.in_ok-read.ensures.honest

pub returns-in_err-read-clause-extent : goal.returns-in_err-read-clause-extent
returns-in_err-read-clause-extent g c =
    c.in_err-read.ensures.extent

pub returns-in_err-read-clause-honest : goal.returns-in_err-read-clause-honest
returns-in_err-read-clause-honest g c =
    c.in_err-read.ensures.honest

pub returns-clause-extent : goal.returns-clause-extent
returns-clause-extent g c =
    c.write_blocks.ensures.extent ∙ c.in_ok-read.ensures.extent

pub returns-clause-faults : goal.returns-clause-faults
returns-clause-faults g c =
    c.write_blocks.ensures.faults ∙ ap (faults_after c.write_blocks.result) c.in_ok-read.ensures.faults

pub returns-in_err-read-clause-faults : goal.returns-in_err-read-clause-faults
returns-in_err-read-clause-faults g c =
    c.in_err-read.ensures.faults ∙ sym (failed_counted c.from_residual.result _ c.from_residual.ensures.0)
