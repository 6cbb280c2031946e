use Rattle.std.proofs.Common.{◌≡◌, ◌<◌, ap, length, sym, ◌∙◌, ◌∷◌, ◌++◌, [], subst}
use Rattle.export_model.specs.Log.{edit_asked}
use Rattle.image_model.specs.Edit.{becomes}
use Rattle.image_model.specs.Image.{Image, apply_all}
use Rattle.order_book.specs.Edits.{IsKnownBy}
use Rattle.order_book.specs.Order.{OrderState}
use Rattle.request_core.specs.Outcomes.{IsServedBy}
use Rattle.request_core.specs.Serving.{HasSent}
use Rattle.shared_store.specs.laws.Trust.{all_right}
use Rattle.shared_store.proofs.AnswersShowImage.{known_by, with_keeper, with_over}
use Rattle.shared_store.proofs.LogAsksOrder.{has_sent}
use Rattle.shared_store.proofs.ServingKeepsHistory.{with_order}
use Rattle.shared_store.proofs.BaseStaysNoted.{noted_with}
use Rattle.shared_store.specs.Orders.{AreRight, Trusting}
use Rattle.shared_store.proofs.UnlockedReadPremises.{kept, told_by}
use Rattle.shared_store.proofs.order.SharedOrder.serve_with.Goals as goal

pub invariant_of-self : goal.invariant_of-self
invariant_of-self g c =
    let met = c.meet.new.self in let call = c.serve.ensures in let old = c.self.inside.order in let (given, given_is, by) = call.serves in
    let blocks = sym c.requires.blocks ∙ sym (ap (λ (o : OrderState). length o.cache.states) c.self.view_is) ∙ c.self.invariant.is.blocks in
    let sizes = call.blocks ∙ ap (λ (o : OrderState). length o.cache.states) c.meet.ensures.order in
    let here = subst (λ (o : OrderState). IsServedBy g.D.Disk.state g.D.Disk.faults g.D.Disk.honest given c.args.request c.args.terms.geometry c.args.terms.mode o c.serve.new.order met.keeper c.serve.new.self.keeper c.serve.result)
    c.meet.ensures.order by in
    kept g.B.BoardName.opening g.B.ImageName.image g.B.ImageName.vouches g.B.ImageName.trusted old c.serve.new.order c.self.invariant
    (λ is. with_order g.B.BoardName.opening g.B.ImageName.image (g.B.ImageName.trusted × AreRight g.B.BoardName.opening g.B.ImageName.image c.self.invariant.reads) c.args.request c.args.terms.geometry c.args.terms.mode old c.serve.new.order is c.serve.result
    blocks sizes g.B.ImageName.trusted (λ both. both.0) g.D.Disk.state g.D.Disk.faults g.D.Disk.honest met.seat met.keeper c.serve.new.self.keeper c.meet.ensures.stored c.meet.ensures.history c.meet.ensures.base given here)

pub returns-clause-tells : goal.returns-clause-tells
returns-clause-tells g c =
    let met = c.meet.new.self in let (given, given_is, by) = c.serve.ensures.serves in
    let here = subst (λ (o : OrderState). IsServedBy g.D.Disk.state g.D.Disk.faults g.D.Disk.honest given c.args.request c.args.terms.geometry c.args.terms.mode o c.serve.new.order met.keeper c.serve.new.self.keeper c.serve.result)
    c.meet.ensures.order by in
    told_by g.B.BoardName.opening g.B.ImageName.image g.B.ImageName.vouches g.B.ImageName.trusted c.self.inside.order c.self.invariant
    (λ both. with_keeper g.B.BoardName.opening g.B.ImageName.image (g.B.ImageName.trusted × AreRight g.B.BoardName.opening g.B.ImageName.image c.self.invariant.reads) c.args.request c.args.terms.geometry c.args.terms.mode c.self.inside.order c.serve.new.order c.self.invariant.is c.serve.result both
    g.B.ImageName.trusted both.0 g.D.Disk.state g.D.Disk.faults g.D.Disk.honest met.seat met.keeper c.serve.new.self.keeper c.meet.ensures.stored c.meet.ensures.history c.meet.ensures.base given here)

pub returns-clause-over : goal.returns-clause-over
returns-clause-over g c =
    let met = c.meet.new.self in let (given, given_is, by) = c.serve.ensures.serves in let new = c.serve.new.order in let image = g.B.ImageName.image in
    let here = subst (λ (o : OrderState). IsServedBy g.D.Disk.state g.D.Disk.faults g.D.Disk.honest given c.args.request c.args.terms.geometry c.args.terms.mode o new met.keeper c.serve.new.self.keeper c.serve.result)
    c.meet.ensures.order by in
    subst (λ (o : OrderState). Trusting g.B.BoardName.opening image g.B.ImageName.vouches g.B.ImageName.trusted (o.mark < new.mark → c.serve.new.pass.history ≡ o.history ++ becomes (edit_asked c.args.request) (apply_all o.history image) ∷ [])) c.self.view_is
    (told_by g.B.BoardName.opening image g.B.ImageName.vouches g.B.ImageName.trusted c.self.inside.order c.self.invariant
    (λ both more. c.serve.ensures.grown (subst (λ (o : OrderState). o.mark < new.mark) (sym c.meet.ensures.order) more)
    ∙ with_over g.B.BoardName.opening image (g.B.ImageName.trusted × AreRight g.B.BoardName.opening g.B.ImageName.image c.self.invariant.reads) c.args.request c.args.terms.geometry c.args.terms.mode c.self.inside.order new c.self.invariant.is c.serve.result both
    g.B.ImageName.trusted both.0 g.D.Disk.state g.D.Disk.faults g.D.Disk.honest met.seat met.keeper c.serve.new.self.keeper c.meet.ensures.stored c.meet.ensures.history c.meet.ensures.base given here more))

pub returns-clause-noted : goal.returns-clause-noted
returns-clause-noted g c =
    let met = c.meet.new in let (given, given_is, by) = c.serve.ensures.serves in
    noted_with c.args.request c.args.terms.geometry c.args.terms.mode met.order c.serve.new.order c.serve.result g.D.Disk.state g.D.Disk.faults g.D.Disk.honest met.self.keeper c.serve.new.self.keeper given by
    ∙ (ap (λ (o : OrderState). o.base) c.meet.ensures.order ∙ ap (λ (o : OrderState). o.base) c.self.view_is)

pub serve-requires-clause-asked : goal.serve-requires-clause-asked
serve-requires-clause-asked g c = λ logs.
    subst (λ (o : OrderState). HasSent g.T.Trust.trusted g.T.Trust.image o c.args.request c.args.pass.now.client) (sym c.meet.ensures.order)
    (has_sent g.B.BoardName.opening g.B.ImageName.image g.B.ImageName.vouches g.B.ImageName.trusted c.args.terms.mode g.T.Trust.trusted g.T.Trust.mode g.T.Trust.image c.self.inside.order c.args.request c.args.pass.now.client
    (c.requires.log logs) c.self.invariant (c.requires.asked logs))

pub serve-requires-clause-known : goal.serve-requires-clause-known
serve-requires-clause-known g c = λ logs trusts works.
    let met = c.meet.new.self in let log = c.requires.log logs in let opening = g.B.BoardName.opening in let first = g.B.ImageName.image in let vouches = g.B.ImageName.vouches in let sure = g.B.ImageName.trusted in let keeps = c.self.invariant in
    subst (λ (o : OrderState). IsKnownBy g.D.Disk.state g.D.Disk.honest met.keeper o (apply_all o.history g.T.Trust.image)) (sym c.meet.ensures.order)
    (subst (λ (i : Image). IsKnownBy g.D.Disk.state g.D.Disk.honest met.keeper c.self.inside.order (apply_all c.self.inside.order.history i)) (sym log.image_is)
    (known_by opening first (sure × AreRight opening first keeps.reads) c.self.inside.order keeps.is (log.device trusts, all_right opening first vouches (log.right trusts) keeps.reads keeps.vouched)
    sure (log.device trusts) g.D.Disk.state g.D.Disk.honest met.seat met.keeper c.meet.ensures.stored c.meet.ensures.history c.meet.ensures.base works))
