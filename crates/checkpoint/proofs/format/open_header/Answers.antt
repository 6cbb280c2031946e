use Rattle.std.proofs.Common.{inl, subst, ◌∙◌}
use Rattle.std.proofs.lemmas.Result.{on_ok_weaker, IfOk-from_err}
use Rattle.disk_model.specs.Disk.{IsSound}
use Rattle.disk_model.specs.laws.Moments.{goes_on, stays_on, weakens}
use Rattle.checkpoint.specs.laws.Closed.{closed_left}
use Rattle.checkpoint.proofs.DeviceWhileFormatted.{opened_made, opened_torn}
use Rattle.checkpoint.proofs.format.open_header.Goals as goal

pub returns-in_err-sync-clause-any_moment : goal.returns-in_err-sync-clause-any_moment
returns-in_err-sync-clause-any_moment g c honest closed geometry states size fresh =
    weakens (c.sync.ensures.any_moment honest) (λ content left. inl (closed_left _ closed content left))

pub returns-in_err-open_gate-clause-any_moment : goal.returns-in_err-open_gate-clause-any_moment
returns-in_err-open_gate-clause-any_moment g c honest closed geometry states size fresh =
    let first = c.in_ok-sync.ensures in
    let synced_honest = first.honest.1 honest in
    let synced = subst (λ e. IsSound e (g.D.Disk.state c.sync.new.self)) first.extent (g.met.D.Disk.sound c.sync.new.self synced_honest) in
    goes_on (weakens (first.any_moment honest) (λ content left. inl (closed_left _ closed content left)))
    (c.open_gate.ensures.any_moment synced_honest)
    (opened_torn _ geometry states _ _ (g.met.D.Disk.sound c.args.disk.now honest) synced size closed fresh (first.synced honest))

pub returns-clause-opened : goal.returns-clause-opened
returns-clause-opened g c honest closed geometry states size fresh =
    let first = c.in_ok-sync.ensures in
    let second = c.in_ok-open_gate.ensures in
    let synced_honest = first.honest.1 honest in
    let open_honest = second.honest.1 synced_honest in
    let synced = subst (λ e. IsSound e (g.D.Disk.state c.sync.new.self)) first.extent (g.met.D.Disk.sound c.sync.new.self synced_honest) in
    let extent = c.sync-2.ensures.extent ∙ second.extent ∙ first.extent in
    let after = subst (λ e. IsSound e (g.D.Disk.state c.sync-2.new.self)) extent (g.met.D.Disk.sound c.sync-2.new.self (c.sync-2.ensures.honest.1 open_honest)) in
    on_ok_weaker c.sync-2.result
    (λ done. opened_made _ geometry states _ _ (g.met.D.Disk.sound c.args.disk.now honest) synced size closed fresh (first.synced honest) _ _ (second.written synced_honest) done after)
    (c.sync-2.ensures.synced open_honest)

pub returns-clause-any_moment : goal.returns-clause-any_moment
returns-clause-any_moment g c honest closed geometry states size fresh =
    let first = c.in_ok-sync.ensures in
    let second = c.in_ok-open_gate.ensures in
    let synced_honest = first.honest.1 honest in
    let open_honest = second.honest.1 synced_honest in
    let synced = subst (λ e. IsSound e (g.D.Disk.state c.sync.new.self)) first.extent (g.met.D.Disk.sound c.sync.new.self synced_honest) in
    stays_on
    (goes_on (weakens (first.any_moment honest) (λ content left. inl (closed_left _ closed content left)))
    (second.any_moment synced_honest)
    (opened_torn _ geometry states _ _ (g.met.D.Disk.sound c.args.disk.now honest) synced size closed fresh (first.synced honest)))
    (g.met.D.Disk.sound c.open_gate.new.disk open_honest) (c.sync-2.ensures.any_moment open_honest)

pub returns-in_err-sync-clause-synced : goal.returns-in_err-sync-clause-synced
returns-in_err-sync-clause-synced g c given =
    IfOk-from_err c.from_residual.result _ c.from_residual.ensures.0

pub returns-in_err-sync-clause-opened : goal.returns-in_err-sync-clause-opened
returns-in_err-sync-clause-opened g c given given1 geometry states given2 given3 =
    IfOk-from_err c.from_residual.result _ c.from_residual.ensures.0

pub returns-in_err-open_gate-clause-synced : goal.returns-in_err-open_gate-clause-synced
returns-in_err-open_gate-clause-synced g c given =
    IfOk-from_err c.from_residual-in_err-open_gate.result _ c.from_residual-in_err-open_gate.ensures.0

pub returns-in_err-open_gate-clause-opened : goal.returns-in_err-open_gate-clause-opened
returns-in_err-open_gate-clause-opened g c given given1 geometry states given2 given3 =
    IfOk-from_err c.from_residual-in_err-open_gate.result _ c.from_residual-in_err-open_gate.ensures.0
