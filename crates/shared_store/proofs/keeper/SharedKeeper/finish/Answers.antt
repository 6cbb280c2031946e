use Rattle.std.proofs.Common.{ap, refl, sym, ◌∙◌, subst, arith}
use Rattle.checkpoint.specs.Steps.{first_turned}
use Rattle.device_image.specs.Keeper.{KeeperState}
use Rattle.marks.specs.Known.{KeeperKnows}
use Rattle.shared_store.specs.Keepers.{IsOfHistory}
use Rattle.disk_model.specs.Disk.{LeavesOnly}
use Rattle.shared_store.specs.Keepers.{SeatedState}
use Rattle.shared_store.specs.Parts.{StandsWithin}
use Rattle.shared_store.proofs.StoredBeginsHistory.{leaves_step, passing_by}
use Rattle.shared_store.proofs.StoredBeginsHistory.{ended, first_after, step_refused, worked}
use Rattle.shared_store.proofs.keeper.SharedKeeper.finish.Goals as goal

pub invariant_of-self : goal.invariant_of-self
invariant_of-self g c =
    let i = c.self.inside in let call = c.finish.ensures in let next = c.finish.new.self in
    passing_by g.D.Disk.state g.D.Disk.honest g.B.BoardName.opening g.B.ImageName.image g.B.ImageName.start g.B.ImageName.trusted i.seat i.keeper c.self.invariant i.seat next
    (step_refused g.D.Disk.state g.D.Disk.honest g.B.BoardName.opening g.B.ImageName.image g.B.ImageName.trusted i.seat i.keeper c.self.invariant.stored (g.D.Disk.extent next.disk) next (g.met.D.Disk.sound next.disk) call.honest.1
    c.in_err-finish.field-0.0 c.finish.result c.in_err-finish.was c.in_err-finish.ensures.err call.failed call.any_moment)
    refl (leaves_step g.D.Disk.state g.D.Disk.honest g.B.BoardName.opening g.B.ImageName.image g.B.ImageName.trusted i.seat i.keeper c.self.invariant.stored (g.D.Disk.extent i.keeper.disk) next (g.met.D.Disk.sound i.keeper.disk) c.finish.result call.err call.failed call.any_moment)

pub raise_base-requires : goal.raise_base-requires
raise_base-requires g c =
    let i = c.self.inside in let call = c.in_ok-finish.ensures in let is = c.self.invariant.stored in
    omega (arith, c.base-base.ensures, ap (λ (k : KeeperState g.row.D.Denot). k.base) call.ok, ap (first_turned i.keeper.base) is.turned, is.seat_base, first_after i.keeper.base is.fronts)

pub invariant_of-self-2 : goal.invariant_of-self-2
invariant_of-self-2 g c =
    let i = c.self.inside in let call = c.in_ok-finish.ensures in let next = c.finish.new.self in
    let works = worked g.D.Disk.state g.D.Disk.honest g.B.BoardName.opening g.B.ImageName.image g.B.ImageName.trusted i.seat i.keeper c.self.invariant.stored (g.D.Disk.extent next.disk) next (g.met.D.Disk.sound next.disk) call.honest.1 c.in_ok-finish.field-0 call.failed in
    passing_by g.D.Disk.state g.D.Disk.honest g.B.BoardName.opening g.B.ImageName.image g.B.ImageName.start g.B.ImageName.trusted i.seat i.keeper c.self.invariant c.raise_base.new.keeper next
    (subst (λ (s : KeeperKnows). IsOfHistory g.D.Disk.state g.D.Disk.honest g.B.BoardName.opening g.B.ImageName.image g.B.ImageName.trusted s next) (sym (c.raise_base.ensures ∙ ap (λ n. record i.seat { base = n }) c.base-base.ensures))
    (ended g.D.Disk.state g.D.Disk.honest g.B.BoardName.opening g.B.ImageName.image g.B.ImageName.trusted i.seat i.keeper c.self.invariant.stored (g.D.Disk.extent next.disk) next (g.met.D.Disk.sound next.disk) call.honest.1 c.in_ok-finish.field-0 works call.ok call.not_now call.held))
    (ap (λ (s : KeeperKnows). s.history) c.raise_base.ensures) (leaves_step g.D.Disk.state g.D.Disk.honest g.B.BoardName.opening g.B.ImageName.image g.B.ImageName.trusted i.seat i.keeper c.self.invariant.stored (g.D.Disk.extent i.keeper.disk) next (g.met.D.Disk.sound i.keeper.disk) c.finish.result c.finish.ensures.err c.finish.ensures.failed c.finish.ensures.any_moment)

pub returns-in_err-finish-clause-any_moment : goal.returns-in_err-finish-clause-any_moment
returns-in_err-finish-clause-any_moment g c =
    let i = c.self.inside in let call = c.finish.ensures in let next = c.finish.new.self in
    subst (λ (s : SeatedState g.row.D.Denot). g.B.ImageName.trusted → LeavesOnly (g.D.Disk.state s.keeper.disk) (g.D.Disk.state next.disk) (StandsWithin g.B.BoardName.opening g.B.ImageName.image i.seat.history s.keeper.count)) c.self.view_is
    (leaves_step g.D.Disk.state g.D.Disk.honest g.B.BoardName.opening g.B.ImageName.image g.B.ImageName.trusted i.seat i.keeper c.self.invariant.stored (g.D.Disk.extent i.keeper.disk) next (g.met.D.Disk.sound i.keeper.disk) c.finish.result call.err call.failed call.any_moment)

pub returns-clause-any_moment : goal.returns-clause-any_moment
returns-clause-any_moment g c =
    let i = c.self.inside in let call = c.finish.ensures in let next = c.finish.new.self in
    subst (λ (s : SeatedState g.row.D.Denot). g.B.ImageName.trusted → LeavesOnly (g.D.Disk.state s.keeper.disk) (g.D.Disk.state next.disk) (StandsWithin g.B.BoardName.opening g.B.ImageName.image c.raise_base.new.keeper.history s.keeper.count)) c.self.view_is
    (rw c.raise_base.ensures (leaves_step g.D.Disk.state g.D.Disk.honest g.B.BoardName.opening g.B.ImageName.image g.B.ImageName.trusted i.seat i.keeper c.self.invariant.stored (g.D.Disk.extent i.keeper.disk) next (g.met.D.Disk.sound i.keeper.disk) c.finish.result call.err call.failed call.any_moment))
