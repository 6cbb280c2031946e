use Rattle.std.proofs.Common.{◌∙◌, ap, sym}
use Rattle.disk_model.specs.laws.Moments.{stays_on}
use Rattle.std.proofs.lemmas.Result.{IfOk-from_err}
use Rattle.disk_model.specs.Faults.{faults_after}
use Rattle.checkpoint.proofs.ExcludedRefusals.{both_ways, failed_counted}
use Rattle.checkpoint.proofs.device_steps.empty_area.Goals as goal

pub returns-clause-honest : goal.returns-clause-honest
returns-clause-honest g c =
    both_ways c.sync.ensures.honest c.in_ok-close_first.ensures.honest

pub returns-clause-any_moment : goal.returns-clause-any_moment
returns-clause-any_moment g c honest =
    let first = c.in_ok-close_first.ensures in
    let mid_honest = first.honest.1 honest in
    stays_on (first.any_moment honest) (g.met.D.Disk.sound c.close_first.new.disk mid_honest) (c.sync.ensures.any_moment mid_honest)

pub returns-clause-extent : goal.returns-clause-extent
returns-clause-extent g c =
    c.sync.ensures.extent ∙ c.in_ok-close_first.ensures.extent

pub returns-clause-faults : goal.returns-clause-faults
returns-clause-faults g c =
    c.sync.ensures.faults ∙ ap (faults_after c.sync.result) c.in_ok-close_first.ensures.faults

pub returns-in_err-close_first : goal.returns-in_err-close_first
returns-in_err-close_first g c = record {
  ok = IfOk-from_err c.from_residual.result _ c.from_residual.ensures.0;
  extent = c.in_err-close_first.ensures.extent;
  faults = c.in_err-close_first.ensures.faults ∙ sym (failed_counted c.from_residual.result _ c.from_residual.ensures.0);
  honest = c.in_err-close_first.ensures.honest;
  stored = λ given. IfOk-from_err c.from_residual.result _ c.from_residual.ensures.0;
  any_moment = c.in_err-close_first.ensures.any_moment;
}
