use Rattle.std.proofs.Common.{[], subst, sym}
use Rattle.shared_store.specs.Orders.{AreRight, IsOrderOfHistory}
use Rattle.order_book.specs.Order.{OrderState}
use Rattle.order_book.specs.Shown.{ShowsImage}
use Rattle.shared_store.proofs.OrderKnowsHistory.{fresh}
use Rattle.shared_store.proofs.order.SharedOrder.new.Goals as goal

pub invariant_of-result : goal.invariant_of-result
invariant_of-result g c =
    let (states, frames, area, blocks, is) = c.requires.fresh in record {
      reads = [];
      vouched = tt;
      is = subst (IsOrderOfHistory g.B.BoardName.opening g.B.ImageName.image (g.B.ImageName.trusted × AreRight g.B.BoardName.opening g.B.ImageName.image [])) (sym is)
          (fresh g.B.BoardName.opening g.B.ImageName.image (g.B.ImageName.trusted × AreRight g.B.BoardName.opening g.B.ImageName.image []) states frames area blocks
          (λ both. subst (λ (o : OrderState). ShowsImage g.B.ImageName.image o.cache) is (c.requires.shows both.0)));
    }
