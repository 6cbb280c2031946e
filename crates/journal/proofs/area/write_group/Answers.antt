-- Each fact of a write is searched for, and the lemmas on contents take it from there.
use Rattle.std.proofs.Common.{[], ◌∷◌, ◌+◌, length, subst, rules}
use Rattle.std.specs.Prelude.{OnOk}
use Rattle.disk_model.specs.Disk.{IsSound, IsStored, LeavesOnly, MayLeaveTorn}
use Rattle.disk_model.specs.laws.Moments.{weakens, goes_on}
use Rattle.std.proofs.lemmas.Result.{on_ok_weaker}
use Rattle.journal.proofs.CrashWhileAppending.{torn_body, torn_gate, opened}
use Rattle.journal.proofs.area.write_group.Goals as goal

pub returns-in_err-write_synced-clause-any_moment : goal.returns-in_err-write_synced-clause-any_moment
returns-in_err-write_synced-clause-any_moment g c honest stable =
    let before = g.D.Disk.state c.args.disk.now in
    let body : LeavesOnly before (g.D.Disk.state c.write_synced.new.disk) (MayLeaveTorn before (c.args.gate + 1) (length c.args.body.now)) = search rules in
    weakens body (torn_body _ _ _ _ (g.met.D.Disk.sound c.args.disk.now honest) stable)

pub returns-clause-stored : goal.returns-clause-stored
returns-clause-stored g c honest stable =
    let before = g.D.Disk.state c.args.disk.now in
    let mid = g.D.Disk.state c.write_synced.new.disk in
    let after = g.D.Disk.state c.open_gate.new.disk in
    let first = c.write_synced.ensures in
    let second = c.open_gate.ensures in
    let mid_honest = first.honest.1 honest in
    let sound = g.met.D.Disk.sound c.args.disk.now honest in
    let mid_sound = subst (λ e. IsSound e mid) first.extent (g.met.D.Disk.sound c.write_synced.new.disk mid_honest) in
    let at_end = subst (λ e. IsSound e after) first.extent (subst (λ e. IsSound e after) second.extent (g.met.D.Disk.sound c.open_gate.new.disk (second.honest.1 mid_honest))) in
    let body : IsStored before (c.args.gate + 1) c.args.body.now mid = search rules in
    let gate : OnOk c.open_gate.result (IsStored mid c.args.gate (1 ∷ []) after) = search rules in
    on_ok_weaker c.open_gate.result (opened _ _ _ _ sound stable _ body mid_sound _ at_end) gate

pub returns-clause-any_moment : goal.returns-clause-any_moment
returns-clause-any_moment g c honest stable =
    let before = g.D.Disk.state c.args.disk.now in
    let mid = g.D.Disk.state c.write_synced.new.disk in
    let after = g.D.Disk.state c.open_gate.new.disk in
    let first = c.write_synced.ensures in
    let mid_honest = first.honest.1 honest in
    let sound = g.met.D.Disk.sound c.args.disk.now honest in
    let mid_sound = subst (λ e. IsSound e mid) first.extent (g.met.D.Disk.sound c.write_synced.new.disk mid_honest) in
    let body : IsStored before (c.args.gate + 1) c.args.body.now mid = search rules in
    let body_torn : LeavesOnly before mid (MayLeaveTorn before (c.args.gate + 1) (length c.args.body.now)) = search rules in
    let gate_torn : LeavesOnly mid after (MayLeaveTorn mid c.args.gate 1) = search rules in
    goes_on (weakens body_torn (torn_body _ _ _ _ sound stable)) gate_torn (torn_gate _ _ _ _ sound stable _ body mid_sound)
