use Rattle.std.proofs.Common.{ap, ◌∙◌}
use Rattle.device_image.specs.Keeper.{KeeperState}
use Rattle.shared_store.specs.Keepers.{SeatedState}
use Rattle.shared_store.proofs.OrderKnowsHistory.{cleaned_by}
use Rattle.shared_store.specs.Orders.{AreRight}
use Rattle.shared_store.proofs.UnlockedReadPremises.{kept}
use Rattle.shared_store.proofs.order.SharedOrder.clean.Goals as goal

pub invariant_of-self : goal.invariant_of-self
invariant_of-self g c =
    let met = c.meet.new.self in
    let number = ap (λ (k : KeeperState g.row.D.Denot). k.base) (c.keeper.ensures ∙ ap (λ (s : SeatedState g.row.D.Denot). s.keeper) c.tell_base.ensures.same) in
    kept g.B.BoardName.opening g.B.ImageName.image g.B.ImageName.vouches g.B.ImageName.trusted c.self.inside.order c.clean.new.self c.self.invariant
    (λ is. cleaned_by g.B.BoardName.opening g.B.ImageName.image (g.B.ImageName.trusted × AreRight g.B.BoardName.opening g.B.ImageName.image c.self.invariant.reads) c.self.inside.order is g.B.ImageName.trusted g.D.Disk.state g.D.Disk.honest c.meet.new.order c.meet.ensures.order c.tell_base.new.order met.seat met.keeper c.tell_base.ensures.order
    c.meet.ensures.stored c.meet.ensures.history c.meet.ensures.base c.keeper.result.now.base number c.clean.new.self c.clean.ensures.new c.clean.ensures.image)
