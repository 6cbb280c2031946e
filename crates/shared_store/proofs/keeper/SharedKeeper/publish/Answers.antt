use Rattle.order_book.specs.Order.{is_published}
use Rattle.shared_store.proofs.StoredBeginsHistory.{grown_seat, passing_still, published}
use Rattle.shared_store.proofs.keeper.SharedKeeper.publish.Goals as goal

pub invariant_of-self : goal.invariant_of-self
invariant_of-self g c =
    let i = c.self.inside in
    passing_still g.D.Disk.state g.D.Disk.honest g.B.BoardName.opening g.B.ImageName.image g.B.ImageName.start g.B.ImageName.trusted i.seat i.keeper c.self.invariant c.publish.new.seat
    (published g.D.Disk.state g.D.Disk.honest g.B.BoardName.opening g.B.ImageName.image g.B.ImageName.trusted i.seat i.keeper c.self.invariant.stored c.publish.new.seat c.args.order.now (is_published c.args.order.now i.keeper.count) c.publish.ensures.seat)
    (grown_seat i.seat i.keeper.count c.publish.new.seat c.args.order.now (is_published c.args.order.now i.keeper.count) c.publish.ensures.seat)
