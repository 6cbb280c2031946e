use Rattle.shared_store.proofs.OrderKnowsHistory.{put_back}
use Rattle.shared_store.specs.Orders.{AreRight}
use Rattle.shared_store.proofs.UnlockedReadPremises.{kept}
use Rattle.shared_store.proofs.order.SharedOrder.put_back.Goals as goal

pub invariant_of-self : goal.invariant_of-self
invariant_of-self g c = let parts = c.into_parts-group.ensures in
    kept g.B.BoardName.opening g.B.ImageName.image g.B.ImageName.vouches g.B.ImageName.trusted c.self.inside.order c.put_back.new.self c.self.invariant
    (λ is. put_back g.B.BoardName.opening g.B.ImageName.image (g.B.ImageName.trusted × AreRight g.B.BoardName.opening g.B.ImageName.image c.self.invariant.reads) c.self.inside.order is c.args.sealed c.into_parts-group.result.0 c.into_parts-group.result.1.history parts.sealed parts.group parts.told
    c.compare.ensures.told (c.is_in_hand.ensures.0 c.if-not-is_in_hand.false) c.compare.new.self c.compare.ensures.same c.put_back.new.self c.put_back.ensures.pending)
