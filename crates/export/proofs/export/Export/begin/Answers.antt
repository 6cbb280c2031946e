use Rattle.std.proofs.Common.{◌≡◌, ◌∙◌, ℕ, ap, subst, sym}
use Rattle.export.proofs.RequestIsReplied.{begun_is, replied}
use Rattle.export.specs.Begun.{IsBegun, WaitingState}
use Rattle.export.specs.Submits.{IsReplied}
use Rattle.export_model.specs.declared.step.Mode.{Mode}
use Rattle.marks.specs.Client.{answering}
use Rattle.marks.specs.Known.{PassState}
use Rattle.nbd_wire.specs.declared.head.RequestHead.{RequestHead}
use Rattle.nbd_wire.specs.declared.message.Answer.{Answer}
use Rattle.nbd_wire.specs.declared.message.Reply.{Reply}
use Rattle.request_core.specs.declared.serving.Terms.{Terms}
use Rattle.shared_store.specs.Orders.{Trusting}
use Rattle.export.proofs.export.Export.begin.Goals as goal

pub returns-in-Ok-clause-answered : goal.returns-in-Ok-clause-answered
returns-in-Ok-clause-answered g c =
    let opening = g.B.BoardName.opening in let image = g.B.ImageName.image in let Sure = Trusting opening image g.B.ImageName.vouches g.B.ImageName.trusted in
    let geometry = c.args.self.now.geometry in let flags = c.args.flags.now in let request = c.args.request in let begin = c.begin-request.ensures in
    let old = c.pass.inside.pass in let mid = c.serve_at_once.new.pass in let outcome = c.in-Ok.answer in let last = c.answer-answer.new.pass in
    let terms : Terms = record { geometry = geometry; flags = flags; mode = c.mode.result } in
    let is : IsReplied opening image Sure request c.mode.result geometry flags old (record mid { client = answering mid.client outcome }) (record { cookie = request.head.cookie; answer = outcome }) =
    replied g.T.Trust.logs g.T.Trust.trusted g.T.Trust.image opening image g.B.ImageName.vouches g.B.ImageName.trusted request c.begin-request.result terms old c.begin-request.new.pass begin.same begin.known begin.seen begin.pass mid outcome
    c.in-Ok.ensures.answered in
    subst (λ (m : Mode). IsReplied opening image Sure request m geometry flags c.args.pass last (record { cookie = c.head-cookie.result.cookie; answer = c.answer-answer.result })) (c.mode.ensures.mode ∙ c.args.self.now.moded)
    (subst (λ (p : PassState). IsReplied opening image Sure request c.mode.result geometry flags p last (record { cookie = c.head-cookie.result.cookie; answer = c.answer-answer.result })) c.pass.view_is
    (subst (λ (n : ℕ). IsReplied opening image Sure request c.mode.result geometry flags old last (record { cookie = n; answer = c.answer-answer.result })) (sym (ap (λ (h : RequestHead). h.cookie) c.head-cookie.ensures))
    (subst (λ (a : Answer). IsReplied opening image Sure request c.mode.result geometry flags old last (record { cookie = request.head.cookie; answer = a })) (sym c.answer-answer.ensures.same)
    (subst (λ (p : PassState). IsReplied opening image Sure request c.mode.result geometry flags old p (record { cookie = request.head.cookie; answer = outcome })) (sym c.answer-answer.ensures.pass) is))))

pub returns-in-Err-clause-waits : goal.returns-in-Err-clause-waits
returns-in-Err-clause-waits g c =
    let opening = g.B.BoardName.opening in let image = g.B.ImageName.image in let Sure = Trusting opening image g.B.ImageName.vouches g.B.ImageName.trusted in
    let geometry = c.args.self.now.geometry in let flags = c.args.flags.now in let request = c.args.request in let begin = c.begin-request.ensures in
    let old = c.pass.inside.pass in
    let terms : Terms = record { geometry = geometry; flags = flags; mode = c.mode.result } in
    let waiting : WaitingState = record { pass = c.serve_at_once.new.pass; number = c.in-Err.number; cookie = c.head-cookie.result.cookie } in
    subst (λ (m : Mode). IsBegun opening image Sure request m geometry flags c.args.pass waiting) (c.mode.ensures.mode ∙ c.args.self.now.moded)
    (subst (λ (p : PassState). IsBegun opening image Sure request c.mode.result geometry flags p waiting) c.pass.view_is
    (begun_is g.T.Trust.logs g.T.Trust.trusted g.T.Trust.image opening image g.B.ImageName.vouches g.B.ImageName.trusted request c.begin-request.result terms old c.begin-request.new.pass begin.same begin.known begin.seen begin.pass
    waiting (ap (λ (h : RequestHead). h.cookie) c.head-cookie.ensures) c.in-Err.ensures.waits))
