use Rattle.std.proofs.Common.{subst}
use Rattle.std.proofs.lemmas.Result.{IfOk-from_err}
use Rattle.disk_model.specs.Disk.{IsSound}
use Rattle.disk_model.specs.laws.Moments.{weakens}
use Rattle.checkpoint.proofs.HeadersClosed.{closed_moments, left_before, settled}
use Rattle.checkpoint.proofs.keeper.Keeper.close_headers.Goals as goal

pub returns-in_err-sync-clause-closed : goal.returns-in_err-sync-clause-closed
returns-in_err-sync-clause-closed g c given =
    IfOk-from_err c.from_residual.result _ c.from_residual.ensures.0

pub returns-in_err-sync-clause-any_moment : goal.returns-in_err-sync-clause-any_moment
returns-in_err-sync-clause-any_moment g c honest =
    weakens (c.sync.ensures.any_moment honest) (left_before (g.D.Disk.state c.args.disk.now))

pub returns-clause-closed : goal.returns-clause-closed
returns-clause-closed g c honest =
    let first = c.in_ok-sync.ensures in
    let mid_honest = first.honest.1 honest in
    let mid = subst (λ e. IsSound e (g.D.Disk.state c.sync.new.self)) first.extent (g.met.D.Disk.sound c.sync.new.self mid_honest) in
    c.close_gates.ensures.closed mid_honest (settled _ _ _ (g.met.D.Disk.sound c.args.disk.now honest) (first.synced honest) mid)

pub returns-clause-any_moment : goal.returns-clause-any_moment
returns-clause-any_moment g c honest =
    let first = c.in_ok-sync.ensures in
    let mid_honest = first.honest.1 honest in
    let mid = subst (λ e. IsSound e (g.D.Disk.state c.sync.new.self)) first.extent (g.met.D.Disk.sound c.sync.new.self mid_honest) in
    closed_moments _ _ _ (g.met.D.Disk.sound c.args.disk.now honest) (first.synced honest) mid (first.any_moment honest) (c.close_gates.ensures.any_moment mid_honest)
