use Rattle.std.proofs.Common.{◌≡◌, ◌≤◌, ◌+◌, ap, sym, ◌∙◌, subst, arith, List}
use Rattle.device_image.specs.Keeper.{KeeperState}
use Rattle.disk_model.specs.Disk.{MayLeave}
use Rattle.export_model.specs.OneLog.{IsOneLog}
use Rattle.image_model.specs.Change.{Change}
use Rattle.marks.specs.Known.{KeeperKnows}
use Rattle.marks.specs.laws.Beginnings.{prefix_self}
use Rattle.order_book.specs.Order.{OrderState}
use Rattle.shared_store.specs.Parts.{StandsWithin}
use Rattle.shared_store.proofs.StoredBeginsHistory.{stands_less}
use Rattle.shared_store.proofs.order.SharedOrder.close.Goals as goal

pub returns-clause-log : goal.returns-clause-log
returns-clause-log g c = λ logs.
    let (durable, is, log) = c.close.ensures logs in
    let met = c.meet.new.self in let opening = g.B.BoardName.opening in let image = g.B.ImageName.image in
    let own = ap (λ (o : OrderState). o.history) c.self.view_is in
    let history = c.into_seat.ensures.history ∙ (ap (λ (o : OrderState). o.history) c.meet.ensures.order ∙ own) in
    let known : met.seat.durable ≡ opening + durable = sym (ap (λ (s : KeeperKnows). s.durable) c.into_parts-keeper.ensures.seat) ∙ is in
    let stored = c.meet.ensures.stored.seat_durable in (
      durable,
      subst (λ (h : List Change). IsOneLog g.T.Trust.trusted g.T.Trust.mode g.T.Trust.image h durable c.args.roster) history log,
      λ sure content left.
          subst (λ (h : List Change). StandsWithin opening image h (opening + durable) content) (c.meet.ensures.history ∙ own)
          (stands_less g.D.Disk.state g.D.Disk.honest opening image g.B.ImageName.trusted met.seat met.keeper c.meet.ensures.stored met.seat (opening + durable) (prefix_self met.seat.history) (omega (arith, known, stored)) sure content
          (subst (λ (k : KeeperState g.row.D.Denot). MayLeave (g.D.Disk.state k.disk) content) (sym c.meet.ensures.keeper) left)),
    )
