use Rattle.std.proofs.Common.{ℕ, sym, subst}
use Rattle.std.proofs.lemmas.Result.{on_ok_weaker, IfOk-from_err}
use Rattle.disk_model.specs.Disk.{IsSound}
use Rattle.disk_model.specs.laws.Moments.{goes_on, weakens}
use Rattle.header_slots.specs.Change.{IsInPlace, LeavesEither}
use Rattle.header_slots.specs.Slots.{HoldsHeader}
use Rattle.image_model.specs.Side.{other_of}
use Rattle.checkpoint.proofs.AreaComesIntoUse.{begun_at, change_left, closing_left, held_still, slots_synced}
use Rattle.checkpoint.proofs.device_steps.start_area.Goals as goal

pub returns-in_err-empty_area-clause-any_moment : goal.returns-in_err-empty_area-clause-any_moment
returns-in_err-empty_area-clause-any_moment g c honest calm synced behind current held next =
    weakens (c.empty_area.ensures.any_moment honest) (closing_left (g.D.Disk.state c.args.disk.now) _ _ calm synced behind current c.args.slot held c.args.header.now)

pub returns-clause-begun : goal.returns-clause-begun
returns-clause-begun g c honest calm synced behind current held next =
    let before = g.D.Disk.state c.args.disk.now in
    let mid = g.D.Disk.state c.empty_area.new.disk in
    let after = g.D.Disk.state c.change_header.new.disk in
    let first = c.in_ok-empty_area.ensures in
    let mid_honest = first.honest.1 honest in
    let extent = g.D.Disk.extent c.args.disk.now in
    let sound = g.met.D.Disk.sound c.args.disk.now honest in
    let mid_sound = subst (λ (e : ℕ). IsSound e mid) first.extent (g.met.D.Disk.sound c.empty_area.new.disk mid_honest) in
    let stored = first.stored honest in
    let still = held_still before extent c.args.area.now.from calm synced behind current c.args.slot held c.args.header.now mid sound mid_sound stored in
    let there = subst (λ (e : ℕ). HoldsHeader mid.seen e current c.args.slot) (sym first.extent) still in
    on_ok_weaker c.change_header.result
    (λ placed. begun_at before extent c.args.area.now.from calm synced behind current c.args.slot held c.args.header.now mid sound mid_sound stored after (other_of c.args.slot)
    (subst (λ (e : ℕ). IsInPlace mid e c.args.header.now (other_of c.args.slot) after) first.extent placed))
    (c.change_header.ensures.in_place mid_honest (slots_synced before extent c.args.area.now.from calm synced behind current c.args.slot held c.args.header.now mid sound mid_sound stored) current there next)

pub returns-clause-any_moment : goal.returns-clause-any_moment
returns-clause-any_moment g c honest calm synced behind current held next =
    let before = g.D.Disk.state c.args.disk.now in
    let mid = g.D.Disk.state c.empty_area.new.disk in
    let first = c.in_ok-empty_area.ensures in
    let mid_honest = first.honest.1 honest in
    let extent = g.D.Disk.extent c.args.disk.now in
    let sound = g.met.D.Disk.sound c.args.disk.now honest in
    let mid_sound = subst (λ (e : ℕ). IsSound e mid) first.extent (g.met.D.Disk.sound c.empty_area.new.disk mid_honest) in
    let stored = first.stored honest in
    let still = held_still before extent c.args.area.now.from calm synced behind current c.args.slot held c.args.header.now mid sound mid_sound stored in
    let there = subst (λ (e : ℕ). HoldsHeader mid.seen e current c.args.slot) (sym first.extent) still in
    goes_on (weakens (first.any_moment honest) (closing_left before extent c.args.area.now.from calm synced behind current c.args.slot held c.args.header.now))
    (c.change_header.ensures.any_moment mid_honest (slots_synced before extent c.args.area.now.from calm synced behind current c.args.slot held c.args.header.now mid sound mid_sound stored) current there next)
    (λ content left. change_left before extent c.args.area.now.from calm synced behind current c.args.slot held c.args.header.now mid sound mid_sound stored content
    (subst (λ (e : ℕ). LeavesEither mid e current c.args.slot c.args.header.now content) first.extent left))

pub returns-in_err-empty_area-clause-ok : goal.returns-in_err-empty_area-clause-ok
returns-in_err-empty_area-clause-ok g c =
    IfOk-from_err c.from_residual.result _ c.from_residual.ensures.0

pub returns-in_err-empty_area-clause-begun : goal.returns-in_err-empty_area-clause-begun
returns-in_err-empty_area-clause-begun g c given given1 given2 given3 current given4 given5 =
    IfOk-from_err c.from_residual.result _ c.from_residual.ensures.0
