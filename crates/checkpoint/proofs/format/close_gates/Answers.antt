use Rattle.std.proofs.Common.{◌≡◌, ◌∷◌, [], ℕ, rules, subst}
use Rattle.std.proofs.lemmas.Result.{on_ok_weaker, IfOk-from_err}
use Rattle.disk_model.specs.Disk.{IsSound, IsWritten, LeavesOnly, MayLeaveTorn, State}
use Rattle.disk_model.specs.laws.Moments.{stays_on}
use Rattle.checkpoint.proofs.DeviceWhileFormatted.{closed_after, gates_moments}
use Rattle.checkpoint.proofs.format.close_gates.Goals as goal

-- That it is the gate of the other header is searched for.
closing_there : {before after : State} {place other : ℕ} → LeavesOnly before after (MayLeaveTorn before place 1) → place ≡ other → LeavesOnly before after (MayLeaveTorn before other 1)
closing_there {before} {after} leaves same = subst (λ (p : ℕ). LeavesOnly before after (MayLeaveTorn before p 1)) same leaves

closed_there : {before after : State} {place other : ℕ} → IsWritten before place (0 ∷ []) after → place ≡ other → IsWritten before other (0 ∷ []) after
closed_there {before} {after} written same = subst (λ (p : ℕ). IsWritten before p (0 ∷ []) after) same written

pub returns-in_err-close_gate-2-clause-any_moment : goal.returns-in_err-close_gate-2-clause-any_moment
returns-in_err-close_gate-2-clause-any_moment g c honest =
    let first = c.in_ok-close_gate.ensures in
    let mid_honest = first.honest.1 honest in
    let sound = g.met.D.Disk.sound c.args.disk.now honest in
    let mid = subst (λ e. IsSound e (g.D.Disk.state c.close_gate.new.disk)) first.extent (g.met.D.Disk.sound c.close_gate.new.disk mid_honest) in
    gates_moments sound mid (first.any_moment honest) (first.written honest) (closing_there (c.close_gate-2.ensures.any_moment mid_honest) (search rules))

pub returns-clause-closed : goal.returns-clause-closed
returns-clause-closed g c honest steady =
    let first = c.in_ok-close_gate.ensures in
    let second = c.in_ok-close_gate-2.ensures in
    let mid_honest = first.honest.1 honest in
    let both_honest = second.honest.1 mid_honest in
    let after = g.met.D.Disk.sound c.sync.new.self (c.sync.ensures.honest.1 both_honest) in
    on_ok_weaker c.sync.result
    (λ synced. closed_after _ _ _ _ _ (g.met.D.Disk.sound c.args.disk.now honest) steady (first.written honest) (closed_there (second.written mid_honest) (search rules)) synced
    (subst (λ e. IsSound e (g.D.Disk.state c.sync.new.self)) first.extent (subst (λ e. IsSound e (g.D.Disk.state c.sync.new.self)) second.extent (subst (λ e. IsSound e (g.D.Disk.state c.sync.new.self)) c.sync.ensures.extent after))))
    (c.sync.ensures.synced both_honest)

pub returns-clause-any_moment : goal.returns-clause-any_moment
returns-clause-any_moment g c honest =
    let first = c.in_ok-close_gate.ensures in
    let second = c.in_ok-close_gate-2.ensures in
    let mid_honest = first.honest.1 honest in
    let both_honest = second.honest.1 mid_honest in
    let sound = g.met.D.Disk.sound c.args.disk.now honest in
    let mid = subst (λ e. IsSound e (g.D.Disk.state c.close_gate.new.disk)) first.extent (g.met.D.Disk.sound c.close_gate.new.disk mid_honest) in
    stays_on (gates_moments sound mid (first.any_moment honest) (first.written honest) (closing_there (second.any_moment mid_honest) (search rules)))
    (g.met.D.Disk.sound c.close_gate-2.new.disk both_honest) (c.sync.ensures.any_moment both_honest)

pub returns-in_err-close_gate-clause-closed : goal.returns-in_err-close_gate-clause-closed
returns-in_err-close_gate-clause-closed g c given given1 =
    IfOk-from_err c.from_residual.result _ c.from_residual.ensures.0

pub returns-in_err-close_gate-2-clause-closed : goal.returns-in_err-close_gate-2-clause-closed
returns-in_err-close_gate-2-clause-closed g c given given1 =
    IfOk-from_err c.from_residual-in_err-close_gate-2.result _ c.from_residual-in_err-close_gate-2.ensures.0
