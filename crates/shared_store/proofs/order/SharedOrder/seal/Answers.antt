use Rattle.std.specs.Prelude.{IfSome}
use Rattle.std.proofs.Common.{Option, subst, ap, ◌∙◌}
use Rattle.journal_format.specs.Group.{Numbered}
use Rattle.order_book.specs.Order.{OrderState, Seals}
use Rattle.shared_store.proofs.OrderKnowsHistory.{sealed, sealed_group}
use Rattle.shared_store.specs.Orders.{AreRight}
use Rattle.shared_store.proofs.UnlockedReadPremises.{kept}
use Rattle.shared_store.proofs.order.SharedOrder.seal.Goals as goal

pub new-requires : goal.new-requires
new-requires g c =
    let old = c.self.inside.order in let new = c.seal.new.self in
    let seals : Seals old new c.in-Some.group = subst (λ (o : Option Numbered). IfSome o (Seals old new)) c.in-Some.is c.in_ok-group.ensures.group in
    sealed_group g.B.BoardName.opening g.B.ImageName.image (g.B.ImageName.trusted × AreRight g.B.BoardName.opening g.B.ImageName.image c.self.invariant.reads) old c.self.invariant.is new c.in-Some.group seals c.note-told.result.history (c.note-told.ensures.told.0 ∙ ap (λ (o : OrderState). o.history) seals.rest)

pub invariant_of-self-2 : goal.invariant_of-self-2
invariant_of-self-2 g c =
    let old = c.self.inside.order in let new = c.seal.new.self in
    let seals : Seals old new c.in-Some.group = subst (λ (o : Option Numbered). IfSome o (Seals old new)) c.in-Some.is c.in_ok-group.ensures.group in
    rw c.note-told.ensures.same (kept g.B.BoardName.opening g.B.ImageName.image g.B.ImageName.vouches g.B.ImageName.trusted old new c.self.invariant (λ is. sealed g.B.BoardName.opening g.B.ImageName.image (g.B.ImageName.trusted × AreRight g.B.BoardName.opening g.B.ImageName.image c.self.invariant.reads) old is new c.in-Some.group seals))
