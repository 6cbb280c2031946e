use Rattle.std.proofs.Common.{◌+◌, ◌%◌, ◌<◌, ℕ, ap, rules, subst, sym}
use Rattle.std.proofs.lemmas.Result.{IfOk-from_err}
use Rattle.checkpoint.specs.inner.Report.{AreOf}
use Rattle.checkpoint.proofs.ReportMatchesDevice.{is_report, sized_of}
use Rattle.checkpoint.proofs.keeper.Keeper.inspect.Goals as goal

pub states_after_plans-requires-clause-plans : goal.states_after_plans-requires-clause-plans
states_after_plans-requires-clause-plans g c =
    let call = c.in_ok-header.ensures in
    subst (λ (blocks : ℕ). AreOf blocks c.in_ok-header.field-0.plans.items) (sym call.placed.blocks) (sized_of c.in_ok-header.field-0.plans.items c.in_ok-header.field-0.header.geometry _ call.sized)

pub returns-clause-found : goal.returns-clause-found
returns-clause-found g c honest synced =
    let read = c.in_ok-header.field-0 in
    let call = c.in_ok-header.ensures in
    let state = g.D.Disk.state c.read_parts.new.disk in
    let counted = ap (λ n. (n + 18446744073709551615) % 18446744073709551616) c.next.ensures in
    let fits : read.header.base < 18446744073709551616 = search rules in
    is_report state read.header _ read.map read.plans.items read.area (call.read honest synced) fits _ _ _ _ c.in_ok-map.map call.blocks c.in_ok-map.ensures counted c.count.ensures c.count-2.ensures c.count-3.ensures

pub returns-in_err-header-clause-faults_ok : goal.returns-in_err-header-clause-faults_ok
returns-in_err-header-clause-faults_ok g c =
    IfOk-from_err c.from_residual.result _ c.from_residual.ensures.0

pub returns-in_err-map-clause-faults_ok : goal.returns-in_err-map-clause-faults_ok
returns-in_err-map-clause-faults_ok g c =
    IfOk-from_err c.from_residual-in_err-map.result _ c.from_residual-in_err-map.ensures.0

pub returns-in_err-header-clause-extent : goal.returns-in_err-header-clause-extent
returns-in_err-header-clause-extent g c =
    c.in_err-header.ensures.extent

pub returns-in_err-header-clause-honest : goal.returns-in_err-header-clause-honest
returns-in_err-header-clause-honest g c =
    c.in_err-header.ensures.honest

pub returns-in_err-header-clause-only_read : goal.returns-in_err-header-clause-only_read
returns-in_err-header-clause-only_read g c =
    c.in_err-header.ensures.only_read

pub returns-in_err-map-clause-extent : goal.returns-in_err-map-clause-extent
returns-in_err-map-clause-extent g c =
    c.in_ok-header.ensures.extent

pub returns-in_err-map-clause-honest : goal.returns-in_err-map-clause-honest
returns-in_err-map-clause-honest g c =
    c.in_ok-header.ensures.honest

pub returns-in_err-map-clause-only_read : goal.returns-in_err-map-clause-only_read
returns-in_err-map-clause-only_read g c =
    c.in_ok-header.ensures.only_read

pub returns-clause-extent : goal.returns-clause-extent
returns-clause-extent g c =
    c.in_ok-header.ensures.extent

pub returns-clause-honest : goal.returns-clause-honest
returns-clause-honest g c =
    c.in_ok-header.ensures.honest

pub returns-clause-only_read : goal.returns-clause-only_read
returns-clause-only_read g c =
    c.in_ok-header.ensures.only_read

pub returns-clause-faults_ok : goal.returns-clause-faults_ok
returns-clause-faults_ok g c =
    c.in_ok-header.ensures.faults_ok

pub returns-clause-faults_err : goal.returns-clause-faults_err
returns-clause-faults_err g c =
    tt
