use Rattle.std.proofs.Common.{ℕ, [], ◌∷◌, ◌∙◌, inl, subst}
use Rattle.std.specs.Prelude.{OnOk}
use Rattle.std.proofs.lemmas.Result.{on_ok_weaker}
use Rattle.disk_model.specs.Disk.{IsSound, IsStored, LeavesOnly, MayLeaveTorn}
use Rattle.disk_model.specs.laws.Moments.{weakens, goes_on}
use Rattle.header_slots.proofs.GateClosedAfterRead.{closing_left, gate_closed}
use Rattle.header_slots.proofs.change.close_other.Goals as goal

pub returns-clause-closed : goal.returns-clause-closed
returns-clause-closed g c honest synced =
    let old = g.D.Disk.state c.args.disk.now in
    let mid = g.D.Disk.state c.is_open.new.disk in
    let after = g.D.Disk.state c.write_synced.new.disk in
    let first = c.in_ok-is_open.ensures in
    let second = c.write_synced.ensures in
    let mid_honest = first.honest.1 honest in
    let after_sound = subst (λ e. IsSound e after) (second.extent ∙ first.extent) (g.met.D.Disk.sound c.write_synced.new.disk (second.honest.1 mid_honest)) in
    let stored = subst (λ (from : ℕ). OnOk c.write_synced.result (IsStored mid from (0 ∷ []) after)) c.slot_from.ensures (second.stored mid_honest) in
    on_ok_weaker c.write_synced.result
    (gate_closed old mid after (g.met.D.Disk.sound c.args.disk.now honest) after_sound c.args.other synced (first.kept honest)) stored

pub returns-clause-any_moment : goal.returns-clause-any_moment
returns-clause-any_moment g c honest synced =
    let old = g.D.Disk.state c.args.disk.now in
    let mid = g.D.Disk.state c.is_open.new.disk in
    let after = g.D.Disk.state c.write_synced.new.disk in
    let first = c.in_ok-is_open.ensures in
    let mid_honest = first.honest.1 honest in
    let torn = subst (λ (from : ℕ). LeavesOnly mid after (MayLeaveTorn mid from 1)) c.slot_from.ensures (c.write_synced.ensures.any_moment mid_honest) in
    let found = (first.open honest).0 c.if-not-branch.false in
    goes_on (weakens (first.any_moment honest) (λ content left. inl left)) torn
    (closing_left old mid (g.met.D.Disk.sound c.args.disk.now honest) c.args.other synced (first.kept honest) found)
