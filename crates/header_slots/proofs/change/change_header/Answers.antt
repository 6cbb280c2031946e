use Rattle.std.proofs.Common.{◌≡◌, ◌+◌, [], ◌∷◌, ◌∙◌, rules, subst, arith}
use Rattle.std.specs.Prelude.{OnOk}
use Rattle.std.proofs.lemmas.Result.{on_ok_weaker}
use Rattle.disk_model.specs.Disk.{State, IsSound, IsStored, IsSyncedIn, LeavesOnly, MayLeaveTorn}
use Rattle.disk_model.specs.laws.Moments.{weakens, goes_on}
use Rattle.image_model.specs.declared.side.Side.{Side}
use Rattle.header_slots.specs.Slots.{slot_at}
use Rattle.header_slots.specs.Change.{IsBodyStored, IsGateClosed, LeavesClosing}
use Rattle.header_slots.proofs.HeaderChangeByCalls.{closing_either, writing_either, opening_either, opened_in_place, slot_within}
use Rattle.header_slots.proofs.change.change_header.Goals as goal

-- nothing in the slots is unsynced, so a gate isn't
gate_synced : (state : State) (slot : Side) → IsSyncedIn state 0 8192 → IsSyncedIn state (slot_at slot) 1
gate_synced state slot synced = λ place within. synced place (omega arith, omega (arith, within, slot_within slot))

-- That it is the slot which isn't in force is searched for: where a gate of another one is closed that is found nowhere.
closing_there : {old mid : State} {side other : Side} → LeavesOnly old mid (LeavesClosing old side) → side ≡ other → LeavesOnly old mid (LeavesClosing old other)
closing_there {old} {mid} leaves same = subst (λ (s : Side). LeavesOnly old mid (LeavesClosing old s)) same leaves

closed_there : {old mid : State} {side other : Side} → IsGateClosed old side mid → side ≡ other → IsGateClosed old other mid
closed_there {old} {mid} closed same = subst (λ (s : Side). IsGateClosed old s mid) same closed

pub returns-in_err-close_other-clause-any_moment : goal.returns-in_err-close_other-clause-any_moment
returns-in_err-close_other-clause-any_moment g c honest synced current holds next =
    let old = g.D.Disk.state c.args.disk.now in
    let closing = closing_there (c.close_other.ensures.any_moment honest (gate_synced old _ synced)) (search rules) in
    weakens closing (closing_either c.args.slot old (g.met.D.Disk.sound c.args.disk.now honest) synced _ current c.args.header.now holds next)

pub returns-in_err-write_body-clause-any_moment : goal.returns-in_err-write_body-clause-any_moment
returns-in_err-write_body-clause-any_moment g c honest synced current holds next =
    let old = g.D.Disk.state c.args.disk.now in
    let mid = g.D.Disk.state c.close_other.new.disk in
    let first = c.in_ok-close_other.ensures in
    let sound = g.met.D.Disk.sound c.args.disk.now honest in
    let mid_honest = first.honest.1 honest in
    let mid_sound = subst (λ e. IsSound e mid) first.extent (g.met.D.Disk.sound c.close_other.new.disk mid_honest) in
    let closing = closing_there (first.any_moment honest (gate_synced old _ synced)) (search rules) in
    let closed = closed_there (first.closed honest (gate_synced old _ synced)) (search rules) in
    let writing = subst (λ (side : Side). LeavesOnly mid (g.D.Disk.state c.write_body.new.disk) (MayLeaveTorn mid (slot_at side + 1) 39)) c.other-other.ensures
    (c.write_body.ensures.any_moment mid_honest) in
    goes_on (weakens closing (closing_either c.args.slot old sound synced _ current c.args.header.now holds next))
    writing (writing_either c.args.slot old sound synced _ current c.args.header.now holds next mid mid_sound closed)

pub returns-clause-in_place : goal.returns-clause-in_place
returns-clause-in_place g c honest synced current holds next =
    let old = g.D.Disk.state c.args.disk.now in
    let mid = g.D.Disk.state c.close_other.new.disk in
    let after = g.D.Disk.state c.write_body.new.disk in
    let last = g.D.Disk.state c.open_other.new.disk in
    let first = c.in_ok-close_other.ensures in
    let second = c.in_ok-write_body.ensures in
    let third = c.open_other.ensures in
    let sound = g.met.D.Disk.sound c.args.disk.now honest in
    let mid_honest = first.honest.1 honest in
    let after_honest = second.honest.1 mid_honest in
    let mid_sound = subst (λ e. IsSound e mid) first.extent (g.met.D.Disk.sound c.close_other.new.disk mid_honest) in
    let after_sound = subst (λ e. IsSound e after) (second.extent ∙ first.extent) (g.met.D.Disk.sound c.write_body.new.disk after_honest) in
    let last_sound = subst (λ e. IsSound e last) (third.extent ∙ second.extent ∙ first.extent) (g.met.D.Disk.sound c.open_other.new.disk (third.honest.1 after_honest)) in
    let closed = closed_there (first.closed honest (gate_synced old _ synced)) (search rules) in
    let body = subst (λ (side : Side). IsBodyStored mid side c.args.header.now after) c.other-other.ensures (second.stored mid_honest) in
    let opened = subst (λ (side : Side). OnOk c.open_other.result (IsStored after (slot_at side) (1 ∷ []) last)) c.other-other.ensures (third.stored after_honest) in
    on_ok_weaker c.open_other.result
    (opened_in_place c.args.slot old sound synced _ current c.args.header.now holds next mid after mid_sound after_sound closed body last last_sound) opened

pub returns-clause-any_moment : goal.returns-clause-any_moment
returns-clause-any_moment g c honest synced current holds next =
    let old = g.D.Disk.state c.args.disk.now in
    let mid = g.D.Disk.state c.close_other.new.disk in
    let after = g.D.Disk.state c.write_body.new.disk in
    let last = g.D.Disk.state c.open_other.new.disk in
    let first = c.in_ok-close_other.ensures in
    let second = c.in_ok-write_body.ensures in
    let sound = g.met.D.Disk.sound c.args.disk.now honest in
    let mid_honest = first.honest.1 honest in
    let after_honest = second.honest.1 mid_honest in
    let mid_sound = subst (λ e. IsSound e mid) first.extent (g.met.D.Disk.sound c.close_other.new.disk mid_honest) in
    let after_sound = subst (λ e. IsSound e after) (second.extent ∙ first.extent) (g.met.D.Disk.sound c.write_body.new.disk after_honest) in
    let closing = closing_there (first.any_moment honest (gate_synced old _ synced)) (search rules) in
    let closed = closed_there (first.closed honest (gate_synced old _ synced)) (search rules) in
    let body = subst (λ (side : Side). IsBodyStored mid side c.args.header.now after) c.other-other.ensures (second.stored mid_honest) in
    let writing = subst (λ (side : Side). LeavesOnly mid after (MayLeaveTorn mid (slot_at side + 1) 39)) c.other-other.ensures (second.any_moment mid_honest) in
    let opening = subst (λ (side : Side). LeavesOnly after last (MayLeaveTorn after (slot_at side) 1)) c.other-other.ensures (c.open_other.ensures.any_moment after_honest) in
    goes_on
    (goes_on (weakens closing (closing_either c.args.slot old sound synced _ current c.args.header.now holds next))
    writing (writing_either c.args.slot old sound synced _ current c.args.header.now holds next mid mid_sound closed))
    opening (opening_either c.args.slot old sound synced _ current c.args.header.now holds next mid after mid_sound after_sound closed body)
