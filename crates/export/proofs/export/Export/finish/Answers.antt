use Rattle.std.proofs.Common.{◌≡◌, ◌∙◌, ℕ, ap, subst, sym}
use Rattle.export.proofs.ClientAfterServing.{waited_may}
use Rattle.export.proofs.PassAfterWait.{looked}
use Rattle.export.proofs.RequestIsReplied.{waited_later}
use Rattle.export.specs.Begun.{WaitingState}
use Rattle.export.specs.Submits.{IsReplied}
use Rattle.export.specs.inner.Submits.{IsWaitedFor}
use Rattle.marks.specs.Client.{answering}
use Rattle.marks.specs.Known.{PassState}
use Rattle.nbd_wire.specs.declared.message.Answer.{Answer}
use Rattle.shared_store.specs.Orders.{Trusting}
use Rattle.export.proofs.export.Export.finish.Goals as goal

pub returns-clause-replied : goal.returns-clause-replied
returns-clause-replied g c = λ old request kept flags begun.
    let opening = g.B.BoardName.opening in let image = g.B.ImageName.image in let Sure = Trusting opening image g.B.ImageName.vouches g.B.ImageName.trusted in let geometry = c.args.self.now.geometry in
    let look = c.look_durable-durable.ensures in let after = c.look_durable-durable.new.pass in let outcome = c.wait_for-answer.result in let last = c.answer-answer.new.pass in
    let number = c.waiting.inside.number in let pass = c.waiting.inside.pass in
    let waited : IsWaitedFor number pass after outcome =
    waited_later number pass c.wait_for-answer.new.pass after outcome c.wait_for-answer.ensures (looked c.wait_for-answer.new.pass after c.look_durable-durable.result look.known look.seen look.pass) in
    let waited' : IsWaitedFor c.args.waiting.number c.args.waiting.pass after outcome = subst (λ (w : WaitingState). IsWaitedFor w.number w.pass after outcome) c.waiting.view_is waited in
    let is = begun.replied after outcome waited' in
    let cookie : request.head.cookie ≡ c.waiting.inside.cookie = sym begun.cookie ∙ sym (ap (λ (w : WaitingState). w.cookie) c.waiting.view_is) in
    subst (λ (n : ℕ). IsReplied opening image Sure request kept geometry flags old last (record { cookie = n; answer = c.answer-answer.result })) cookie
    (subst (λ (a : Answer). IsReplied opening image Sure request kept geometry flags old last (record { cookie = request.head.cookie; answer = a })) (sym c.answer-answer.ensures.same)
    (subst (λ (p : PassState). IsReplied opening image Sure request kept geometry flags old p (record { cookie = request.head.cookie; answer = outcome })) (sym c.answer-answer.ensures.pass) is))
