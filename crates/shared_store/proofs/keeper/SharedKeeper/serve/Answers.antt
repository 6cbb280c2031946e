use Rattle.disk_model.specs.Disk.{LeavesOnly}
use Rattle.shared_store.specs.Keepers.{SeatedState}
use Rattle.shared_store.specs.Parts.{StandsWithin}
use Rattle.std.proofs.Common.{refl, subst}
use Rattle.shared_store.proofs.StoredBeginsHistory.{passing_by}
use Rattle.shared_store.proofs.ServingKeepsHistory.{with_leaves}
use Rattle.shared_store.proofs.ServingKeepsHistory.{with_keeper}
use Rattle.shared_store.proofs.keeper.SharedKeeper.serve.Goals as goal

pub invariant_of-self : goal.invariant_of-self
invariant_of-self g c =
    let i = c.self.inside in let call = c.serve_with_keeper.ensures in let next = c.serve_with_keeper.new.keeper in let (given, given_is, by) = call.serves in
    passing_by g.D.Disk.state g.D.Disk.honest g.B.BoardName.opening g.B.ImageName.image g.B.ImageName.start g.B.ImageName.trusted i.seat i.keeper c.self.invariant i.seat next
    (with_keeper g.D.Disk.state g.D.Disk.faults g.D.Disk.honest g.B.BoardName.opening g.B.ImageName.image g.B.ImageName.trusted i.seat i.keeper next c.self.invariant.stored (g.D.Disk.extent next.disk) (g.met.D.Disk.sound next.disk) call.honest.1
    c.args.request c.args.terms.geometry c.args.terms.mode c.args.order.now c.serve_with_keeper.new.order c.serve_with_keeper.result given by)
    refl (λ sure. with_leaves g.D.Disk.state g.D.Disk.faults g.D.Disk.honest g.B.BoardName.opening g.B.ImageName.image g.B.ImageName.trusted i.seat i.keeper next c.self.invariant.stored (g.D.Disk.extent next.disk)
    (g.met.D.Disk.sound next.disk) call.honest.1 c.args.request c.args.terms.geometry c.args.terms.mode c.args.order.now c.serve_with_keeper.new.order c.serve_with_keeper.result (g.D.Disk.extent i.keeper.disk) (g.met.D.Disk.sound i.keeper.disk) sure given by)

pub returns-clause-any_moment : goal.returns-clause-any_moment
returns-clause-any_moment g c =
    let i = c.self.inside in let call = c.serve_with_keeper.ensures in let next = c.serve_with_keeper.new.keeper in let (given, given_is, by) = call.serves in
    subst (λ (s : SeatedState g.row.D.Denot). g.B.ImageName.trusted → LeavesOnly (g.D.Disk.state s.keeper.disk) (g.D.Disk.state next.disk) (StandsWithin g.B.BoardName.opening g.B.ImageName.image i.seat.history s.keeper.count)) c.self.view_is
    (λ sure. with_leaves g.D.Disk.state g.D.Disk.faults g.D.Disk.honest g.B.BoardName.opening g.B.ImageName.image g.B.ImageName.trusted i.seat i.keeper next c.self.invariant.stored (g.D.Disk.extent next.disk)
    (g.met.D.Disk.sound next.disk) call.honest.1 c.args.request c.args.terms.geometry c.args.terms.mode c.args.order.now c.serve_with_keeper.new.order c.serve_with_keeper.result (g.D.Disk.extent i.keeper.disk) (g.met.D.Disk.sound i.keeper.disk) sure given by)
