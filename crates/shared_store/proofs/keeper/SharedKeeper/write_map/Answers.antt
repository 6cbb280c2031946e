use Rattle.disk_model.specs.Disk.{LeavesOnly}
use Rattle.shared_store.specs.Keepers.{SeatedState}
use Rattle.shared_store.specs.Parts.{StandsWithin}
use Rattle.std.proofs.Common.{refl, subst}
use Rattle.shared_store.proofs.StoredBeginsHistory.{leaves_step, passing_by}
use Rattle.shared_store.proofs.StoredBeginsHistory.{mapped}
use Rattle.shared_store.proofs.keeper.SharedKeeper.write_map.Goals as goal

pub invariant_of-self : goal.invariant_of-self
invariant_of-self g c =
    let i = c.self.inside in let call = c.write_map.ensures in let next = c.write_map.new.self in
    passing_by g.D.Disk.state g.D.Disk.honest g.B.BoardName.opening g.B.ImageName.image g.B.ImageName.start g.B.ImageName.trusted i.seat i.keeper c.self.invariant i.seat next
    (mapped g.D.Disk.state g.D.Disk.honest g.B.BoardName.opening g.B.ImageName.image g.B.ImageName.trusted i.seat i.keeper c.self.invariant.stored (g.D.Disk.extent next.disk) next (g.met.D.Disk.sound next.disk) call.honest.1
    c.write_map.result call.ok call.err call.failed call.held call.any_moment)
    refl (leaves_step g.D.Disk.state g.D.Disk.honest g.B.BoardName.opening g.B.ImageName.image g.B.ImageName.trusted i.seat i.keeper c.self.invariant.stored (g.D.Disk.extent i.keeper.disk) next (g.met.D.Disk.sound i.keeper.disk) c.write_map.result call.err call.failed call.any_moment)

pub returns-clause-any_moment : goal.returns-clause-any_moment
returns-clause-any_moment g c =
    let i = c.self.inside in let call = c.write_map.ensures in let next = c.write_map.new.self in
    subst (λ (s : SeatedState g.row.D.Denot). g.B.ImageName.trusted → LeavesOnly (g.D.Disk.state s.keeper.disk) (g.D.Disk.state next.disk) (StandsWithin g.B.BoardName.opening g.B.ImageName.image i.seat.history s.keeper.count)) c.self.view_is
    (leaves_step g.D.Disk.state g.D.Disk.honest g.B.BoardName.opening g.B.ImageName.image g.B.ImageName.trusted i.seat i.keeper c.self.invariant.stored (g.D.Disk.extent i.keeper.disk) next (g.met.D.Disk.sound i.keeper.disk) c.write_map.result call.err call.failed call.any_moment)
