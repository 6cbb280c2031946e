use Rattle.std.proofs.Common.{◌≡◌, ◌<◌, ap, length, sym, ◌∙◌, ◌∷◌, ◌++◌, [], subst}
use Rattle.export_model.specs.Log.{edit_asked}
use Rattle.export_model.specs.Verdict.{verdict}
use Rattle.image_model.specs.Edit.{becomes}
use Rattle.image_model.specs.Image.{apply_all}
use Rattle.order_book.specs.Order.{OrderState}
use Rattle.shared_store.proofs.AnswersShowImage.{if_accepts, if_tells}
use Rattle.shared_store.proofs.LogAsksOrder.{has_sent}
use Rattle.shared_store.proofs.ServingKeepsHistory.{if_here}
use Rattle.shared_store.proofs.BaseStaysNoted.{noted_here}
use Rattle.shared_store.specs.Orders.{AreRight, Trusting}
use Rattle.shared_store.proofs.UnlockedReadPremises.{kept}
use Rattle.shared_store.specs.laws.Trust.{trusting}
use Rattle.shared_store.proofs.order.SharedOrder.serve.Goals as goal

pub invariant_of-self : goal.invariant_of-self
invariant_of-self g c =
    let call = c.serve_held.ensures in let request = c.args.request in let terms = c.args.terms in
    let blocks = sym c.requires.blocks ∙ sym (ap (λ (o : OrderState). length o.cache.states) c.self.view_is) ∙ c.self.invariant.is.blocks in
    kept g.B.BoardName.opening g.B.ImageName.image g.B.ImageName.vouches g.B.ImageName.trusted c.self.inside.order c.serve_held.new.order c.self.invariant
    (λ is. if_here _ g.B.BoardName.opening g.B.ImageName.image (g.B.ImageName.trusted × AreRight g.B.BoardName.opening g.B.ImageName.image c.self.invariant.reads) request terms.geometry terms.mode c.self.inside.order c.serve_held.new.order is (verdict request.head terms.geometry terms.flags) c.serve_held.result
    blocks call.blocks call.serves call.unchanged)

pub returns-clause-tells : goal.returns-clause-tells
returns-clause-tells g c =
    let request = c.args.request in let terms = c.args.terms in
    if_tells g.B.BoardName.opening g.B.ImageName.image g.B.ImageName.vouches g.B.ImageName.trusted c.self.inside.order c.serve_held.new.order c.self.invariant
    request terms.geometry terms.mode (verdict request.head terms.geometry terms.flags) c.serve_held.result c.serve_held.ensures.serves

pub returns-clause-over : goal.returns-clause-over
returns-clause-over g c =
    let call = c.serve_held.ensures in let request = c.args.request in let terms = c.args.terms in let new = c.serve_held.new.order in let image = g.B.ImageName.image in
    subst (λ (o : OrderState). Trusting g.B.BoardName.opening image g.B.ImageName.vouches g.B.ImageName.trusted (o.mark < new.mark → c.serve_held.new.pass.history ≡ o.history ++ becomes (edit_asked request) (apply_all o.history image) ∷ [])) c.self.view_is
    (trusting g.B.BoardName.opening image g.B.ImageName.vouches g.B.ImageName.trusted (λ is more. call.grown more ∙ is more)
    (if_accepts g.B.BoardName.opening image g.B.ImageName.vouches g.B.ImageName.trusted c.self.inside.order new c.self.invariant _
    request terms.geometry terms.mode (verdict request.head terms.geometry terms.flags) c.serve_held.result call.serves call.unchanged))

pub returns-clause-noted : goal.returns-clause-noted
returns-clause-noted g c =
    let call = c.serve_held.ensures in let request = c.args.request in let terms = c.args.terms in
    noted_here _ request terms.geometry terms.mode c.self.inside.order c.serve_held.new.order (verdict request.head terms.geometry terms.flags) c.serve_held.result call.serves call.unchanged
    ∙ ap (λ (o : OrderState). o.base) c.self.view_is

pub serve_held-requires-clause-asked : goal.serve_held-requires-clause-asked
serve_held-requires-clause-asked g c = λ logs.
    has_sent g.B.BoardName.opening g.B.ImageName.image g.B.ImageName.vouches g.B.ImageName.trusted c.args.terms.mode g.T.Trust.trusted g.T.Trust.mode g.T.Trust.image c.self.inside.order c.args.request c.args.pass.now.client
    (c.requires.log logs) c.self.invariant (c.requires.asked logs)
