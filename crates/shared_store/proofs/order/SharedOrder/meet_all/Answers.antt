use Rattle.std.proofs.Common.{◌≡◌, ◌≤◌, ap, sym, ◌∙◌, subst, List}
use Rattle.device_image.specs.Keeper.{KeeperState}
use Rattle.disk_model.specs.Disk.{MayLeave}
use Rattle.image_model.specs.Change.{Change}
use Rattle.marks.specs.Known.{PassState}
use Rattle.marks.specs.laws.Beginnings.{prefix_self}
use Rattle.order_book.specs.Order.{OrderState}
use Rattle.shared_store.specs.Parts.{StandsWithin}
use Rattle.shared_store.proofs.StoredBeginsHistory.{stands_less}
use Rattle.shared_store.proofs.order.SharedOrder.meet_all.Goals as goal

pub returns-clause-left : goal.returns-clause-left
returns-clause-left g c = λ sure content left.
    let met = c.meet.new.self in let keeper = c.meet_pass.new.self.keeper in
    let same : met.keeper ≡ c.args.keeper.now.keeper = c.meet.ensures.keeper ∙ c.meet_pass.ensures.keeper in
    let history : met.seat.history ≡ c.show_mark.new.pass.history =
    c.meet.ensures.history ∙ (sym (ap (λ (o : OrderState). o.history) c.meet.ensures.order) ∙ sym (ap (λ (p : PassState). p.history) c.show_mark.ensures.pass)) in
    let less = subst (λ (k : KeeperState g.row.D.Denot). c.args.pass.now.durable ≤ k.count) (sym same) c.meet_pass.ensures.durable in
    subst (λ (h : List Change). StandsWithin g.B.BoardName.opening g.B.ImageName.image h c.args.pass.now.durable content) history
    (stands_less g.D.Disk.state g.D.Disk.honest g.B.BoardName.opening g.B.ImageName.image g.B.ImageName.trusted met.seat met.keeper c.meet.ensures.stored met.seat c.args.pass.now.durable (prefix_self met.seat.history) less sure content
    (subst (λ (k : KeeperState g.row.D.Denot). MayLeave (g.D.Disk.state k.disk) content) (sym same) left))

pub returns-clause-honest : goal.returns-clause-honest
returns-clause-honest g c = λ sure.
    subst (λ (k : KeeperState g.row.D.Denot). g.D.Disk.honest k.disk) (c.meet.ensures.keeper ∙ c.meet_pass.ensures.keeper) (c.meet.ensures.stored.sure sure)
