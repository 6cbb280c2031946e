use Rattle.std.proofs.Common.{ap, ◌∙◌, subst, sym}
use Rattle.order_book.specs.Order.{OrderState}
use Rattle.shared_store.proofs.AnswersShowImage.{if_over_tells}
use Rattle.shared_store.proofs.ServingKeepsHistory.{if_over, read_for}
use Rattle.shared_store.proofs.BaseStaysNoted.{noted_over}
use Rattle.shared_store.proofs.order.SharedOrder.serve_over.Goals as goal

pub invariant_of-self : goal.invariant_of-self
invariant_of-self g c =
    let call = c.serve_read_over.ensures in
    if_over g.B.BoardName.opening g.B.ImageName.image g.B.ImageName.vouches g.B.ImageName.trusted c.args.head.now c.args.span c.args.bytes.items c.self.inside.order c.serve_read_over.new.order c.self.invariant
    c.requires.planned.range.some (sym c.args.bytes.ok.0 ∙ c.requires.size)
    (subst (λ (o : OrderState). ∥ g.B.ImageName.vouches (read_for c.args.head.now c.args.span c.args.bytes.items o) ∥₁) (sym c.self.view_is) c.requires.vouched)
    c.serve_read_over.result call.read call.unchanged

pub returns-clause-tells : goal.returns-clause-tells
returns-clause-tells g c =
    let call = c.serve_read_over.ensures in
    if_over_tells g.B.BoardName.opening g.B.ImageName.image g.B.ImageName.vouches g.B.ImageName.trusted c.self.inside.order c.serve_read_over.new.order c.self.invariant
    c.args.head.now c.args.span c.args.bytes.items c.requires.planned.range.some (sym c.args.bytes.ok.0 ∙ c.requires.size)
    (subst (λ (o : OrderState). ∥ g.B.ImageName.vouches (read_for c.args.head.now c.args.span c.args.bytes.items o) ∥₁) (sym c.self.view_is) c.requires.vouched)
    c.serve_read_over.result call.read

pub returns-clause-noted : goal.returns-clause-noted
returns-clause-noted g c =
    let call = c.serve_read_over.ensures in
    noted_over c.args.head.now c.args.span c.args.bytes.items c.self.inside.order c.serve_read_over.new.order c.serve_read_over.result call.read call.unchanged
    ∙ ap (λ (o : OrderState). o.base) c.self.view_is
