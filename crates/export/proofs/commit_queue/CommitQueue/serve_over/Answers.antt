use Rattle.std.proofs.Common.{◌∙◌, ◌/◌, ◌≤◌, ℕ, List, ap, refl, subst, sym}
use Rattle.image_model.specs.Image.{apply_all}
use Rattle.nbd_wire.specs.declared.head.RequestHead.{RequestHead}
use Rattle.order_book.specs.Order.{OrderState}
use Rattle.regions.specs.Layout.{block_at}
use Rattle.request_core.specs.Reading.{IsReadOverServed}
use Rattle.shared_store.specs.Answers.{ServesImage}
use Rattle.shared_store.specs.Orders.{Trusting}
use Rattle.export.proofs.RequestIsServed.{over_as}
use Rattle.export.proofs.UnlockedReadIsServed.{given_same}
use Rattle.export.proofs.commit_queue.CommitQueue.serve_over.Goals as goal

pub returns-clause-served : goal.returns-clause-served
returns-clause-served g c =
    let order = c.serve_over.new.self in let served = c.in_ok-served.served in let image = g.B.ImageName.image in
    over_as c.args.pass.now c.requires.may c.show.new.pass c.args.planned.span c.args.bytes.items c.args.self.now.order order served c.requires.planned
    (subst (λ (head : RequestHead). IsReadOverServed head c.args.planned.span c.args.bytes.items c.args.self.now.order order served) c.head-head.ensures c.in_ok-served.ensures.read)
    (subst (λ (head : RequestHead). Trusting g.B.BoardName.opening image g.B.ImageName.vouches g.B.ImageName.trusted (ServesImage (apply_all order.history image) head served)) c.head-head.ensures c.in_ok-served.ensures.tells)
    c.show.ensures.pass

pub returns-clause-over : goal.returns-clause-over
returns-clause-over g c =
    let order = c.serve_over.new.self in let served = c.in_ok-served.served in
    subst (λ (o : OrderState). IsReadOverServed c.args.request.now.head c.args.planned.span c.args.bytes.items c.args.self.now.order o served) (sym c.show.ensures.order)
    (subst (λ (head : RequestHead). IsReadOverServed head c.args.planned.span c.args.bytes.items c.args.self.now.order order served) c.head-head.ensures c.in_ok-served.ensures.read)

pub serve_over-requires-clause-vouched : goal.serve_over-requires-clause-vouched
serve_over-requires-clause-vouched g c =
    let vouched : ℕ → List ℕ → OrderState → Type 0 = λ first bytes order. ∥ g.B.ImageName.vouches (record { first = first; span = c.args.planned.span; bytes = bytes; order = order }) ∥₁ in
    subst (λ (n : ℕ). vouched n c.args.bytes.items c.args.self.now.order) c.from_head.ensures.first
    (subst (λ (l : List ℕ). vouched c.from_head.result.first l c.args.self.now.order) c.deref.ensures.value
    (subst (λ (o : OrderState). vouched c.from_head.result.first c.deref.result.now o) c.order.ensures
    (c.requires.vouched (record { first = c.from_head.result.first; span = c.args.planned.span; bytes = c.deref.result.now; order = c.order.result.now }) (c.vouch-is_vouched.ensures c.if-not-is_vouched.false))))

pub vouch-is_vouched-requires-clause-given : goal.vouch-is_vouched-requires-clause-given
vouch-is_vouched-requires-clause-given g c =
    let span = c.args.planned.span in
    given_same (λ (l : List ℕ). g.H.ReadUnlocked.gives c.args.handle.now c.args.planned.noted_base.number (block_at c.args.terms.now.geometry span.first) l) span.first span.end
    (c.args.request.now.head.offset / 4096) c.from_head.result.first c.args.bytes.items c.deref.result.now
    (sym (c.from_head.ensures.first ∙ ap (λ (h : RequestHead). h.offset / 4096) c.head-head.ensures)) (sym c.deref.ensures.value) c.requires.given

pub vouch-is_vouched-requires-clause-device : goal.vouch-is_vouched-requires-clause-device
vouch-is_vouched-requires-clause-device g c = c.requires.may.geometry

pub vouch-is_vouched-requires-clause-from : goal.vouch-is_vouched-requires-clause-from
vouch-is_vouched-requires-clause-from g c =
    subst (λ (n : ℕ). n ≤ c.args.planned.span.first) (sym (c.from_head.ensures.first ∙ ap (λ (h : RequestHead). h.offset / 4096) c.head-head.ensures)) c.requires.planned.from

pub returns-clause-rest : goal.returns-clause-rest
returns-clause-rest g c = (refl, refl, refl, refl, refl, refl, refl, refl, refl, refl, refl, refl, refl, refl, refl, refl)

pub returns-clause-noted_base : goal.returns-clause-noted_base
returns-clause-noted_base g c = refl

pub returns-clause-other_base : goal.returns-clause-other_base
returns-clause-other_base g c = λ other. absurd (other c.if-planned-self.false)

pub returns-in_err-served-clause-rest : goal.returns-in_err-served-clause-rest
returns-in_err-served-clause-rest g c = (refl, refl, refl, refl, refl, refl, refl, refl, refl, refl, refl, refl, refl, refl, refl, refl)

pub returns-then-planned-self : goal.returns-then-planned-self
returns-then-planned-self g c =
    record { served = tt; size = c.requires.size; noted_base = refl; over = tt; other_base = λ other. refl; unchanged = (refl, refl); rest = (refl, refl, refl, refl, refl, refl, refl, refl, refl, refl, refl, refl, refl, refl, refl, refl) }

pub returns-then-not-is_vouched : goal.returns-then-not-is_vouched
returns-then-not-is_vouched g c =
    record { served = tt; size = c.requires.size; noted_base = refl; over = tt; other_base = λ other. refl; unchanged = (refl, refl); rest = (refl, refl, refl, refl, refl, refl, refl, refl, refl, refl, refl, refl, refl, refl, refl, refl) }
