use Rattle.std.proofs.Common.{◌≡◌, ◌≢◌, ◌∙◌, ◌++◌, ◌∷◌, [], ap, subst, sym}
use Rattle.export.proofs.PassAcrossRequest.{begun_for, called, called_by}
use Rattle.export.specs.Submits.{IsJudged, IsSubmitted}
use Rattle.export_model.specs.Verdict.{verdict}
use Rattle.export_model.specs.declared.connection.Connection.TheVariants.{Requested}
use Rattle.export_model.specs.declared.event.Event.TheVariants.{Answered, Sent}
use Rattle.export_model.specs.declared.step.Mode.{Mode}
use Rattle.image_model.specs.Image.{apply_all}
use Rattle.marks.specs.Client.{answering}
use Rattle.marks.specs.Known.{PassState}
use Rattle.marks.specs.declared.view.Client.{Client}
use Rattle.nbd_wire.specs.Reply.{IsAnswerTo}
use Rattle.nbd_wire.specs.Request.{Message}
use Rattle.nbd_wire.specs.declared.message.Answer.{Answer}
use Rattle.shared_store.specs.Answers.{TellsImage}
use Rattle.shared_store.specs.Logs.{IsLogOf}
use Rattle.shared_store.specs.Orders.{Trusting}
use Rattle.export.proofs.export.Export.submit.Goals as goal

pub begin-request-requires-clause-speaks : goal.begin-request-requires-clause-speaks
begin-request-requires-clause-speaks g c = c.pass.invariant.speaks

pub begin-request-requires-clause-idle : goal.begin-request-requires-clause-idle
begin-request-requires-clause-idle g c = c.pass.invariant.idle

pub serve_to_end-answer-requires : goal.serve_to_end-answer-requires
serve_to_end-answer-requires g c = record {
  kind = subst (λ (r : Message). r.head.kind ≢ 2) (sym c.begin-request.ensures.same) c.requires;
  geometry = c.args.self.now.sized;
  log = λ logs. subst (λ (m : Mode). IsLogOf g.B.BoardName.opening g.B.ImageName.image g.B.ImageName.vouches g.B.ImageName.trusted m g.T.Trust.trusted g.T.Trust.mode g.T.Trust.image) (sym c.mode.ensures.mode) (c.mode.ensures.log logs);
  asked = λ logs.
      let client = ap (λ (p : PassState). p.client) c.begin-request.ensures.pass in record {
        speaks = ap (λ (one : Client). one.speaks) client ∙ c.pass.invariant.speaks;
        asks = ap (λ (one : Client). one.state) client ∙ ap Requested (sym c.begin-request.ensures.same);
      };
}

pub answer-answer-requires-clause-speaks : goal.answer-answer-requires-clause-speaks
answer-answer-requires-clause-speaks g c =
    ap (λ (one : Client). one.speaks) c.serve_to_end-answer.ensures.client.0 ∙ (ap (λ (p : PassState). p.client.speaks) c.begin-request.ensures.pass ∙ c.pass.invariant.speaks)

pub answer-answer-requires-clause-may : goal.answer-answer-requires-clause-may
answer-answer-requires-clause-may g c = c.serve_to_end-answer.ensures.client.1

pub invariant_of-pass : goal.invariant_of-pass
invariant_of-pass g c =
    let last = ap (λ (p : PassState). p.client) c.answer-answer.ensures.pass in record {
      speaks = ap (λ (one : Client). one.speaks) last ∙ (ap (λ (one : Client). one.speaks) c.serve_to_end-answer.ensures.client.0 ∙ (ap (λ (p : PassState). p.client.speaks) c.begin-request.ensures.pass ∙ c.pass.invariant.speaks));
      idle = ap (λ (one : Client). one.state) last;
    }

pub returns-clause-submitted : goal.returns-clause-submitted
returns-clause-submitted g c =
    let opening = g.B.BoardName.opening in let image = g.B.ImageName.image in let Sure = Trusting opening image g.B.ImageName.vouches g.B.ImageName.trusted in let kept = c.args.self.now.mode in
    let old = c.pass.inside.pass in let begun = c.begin-request.new.pass in let mid = c.serve_to_end-answer.new.pass in let last = c.answer-answer.new.pass in
    let outcome = c.serve_to_end-answer.result in let begin = c.begin-request.ensures in
    let began : begun ≡ record old { history = begun.history; accepted = begun.accepted; client = begun.client } =
    begin.pass ∙ ap (λ (one : Client). record old { history = begun.history; accepted = begun.accepted; client = one }) (sym (ap (λ (p : PassState). p.client) begin.pass)) in
    subst (λ (p : PassState). IsSubmitted opening image Sure c.args.request kept p last c.answer-answer.result) c.pass.view_is
    (subst (λ (a : Answer). IsSubmitted opening image Sure c.args.request kept old last a) (sym c.answer-answer.ensures.same)
    (subst (λ (p : PassState). IsSubmitted opening image Sure c.args.request kept old p outcome) (sym c.answer-answer.ensures.pass)
    (subst (λ (r : Message). IsSubmitted opening image Sure r kept old (record mid { client = answering mid.client outcome }) outcome) begin.same
    (begun_for opening image Sure c.begin-request.result kept old begun mid (answering mid.client outcome) begin.known begin.seen began outcome
    (subst (λ (m : Mode). IsSubmitted opening image Sure c.begin-request.result m begun mid outcome) (c.mode.ensures.mode ∙ c.args.self.now.moded) c.serve_to_end-answer.ensures.served)))))

pub returns-clause-kind : goal.returns-clause-kind
returns-clause-kind g c =
    subst (λ (a : Answer). IsAnswerTo c.args.flags.now c.args.request.head.kind a) (sym c.answer-answer.ensures.same)
    (subst (λ (r : Message). IsAnswerTo c.args.flags.now r.head.kind c.serve_to_end-answer.result) c.begin-request.ensures.same c.serve_to_end-answer.ensures.fits.0)

pub returns-clause-judged : goal.returns-clause-judged
returns-clause-judged g c =
    subst (λ (a : Answer). IsJudged (verdict c.args.request.head c.args.self.now.geometry c.args.flags.now) c.args.request a) (sym c.answer-answer.ensures.same)
    (subst (λ (r : Message). IsJudged (verdict r.head c.args.self.now.geometry c.args.flags.now) r c.serve_to_end-answer.result) c.begin-request.ensures.same c.serve_to_end-answer.ensures.fits.1)

pub returns-clause-tells : goal.returns-clause-tells
returns-clause-tells g c =
    let opening = g.B.BoardName.opening in let image = g.B.ImageName.image in let Sure = Trusting opening image g.B.ImageName.vouches g.B.ImageName.trusted in
    let mid = c.serve_to_end-answer.new.pass in let last = c.answer-answer.new.pass in let outcome = c.serve_to_end-answer.result in
    subst (λ (a : Answer). Sure (TellsImage (apply_all last.history image) c.args.request.head a)) (sym c.answer-answer.ensures.same)
    (subst (λ (p : PassState). Sure (TellsImage (apply_all p.history image) c.args.request.head outcome)) (sym c.answer-answer.ensures.pass)
    (subst (λ (r : Message). Sure (TellsImage (apply_all mid.history image) r.head outcome)) c.begin-request.ensures.same c.serve_to_end-answer.ensures.tells))

pub returns-clause-by : goal.returns-clause-by
returns-clause-by g c =
    let mid = c.serve_to_end-answer.new.pass.client in
    let sent = c.serve_to_end-answer.ensures.client.0 ∙ ap (λ (p : PassState). record p.client { state = mid.state }) c.begin-request.ensures.pass in
    ap (λ (p : PassState). p.client.by) c.answer-answer.ensures.pass ∙ (called_by c.pass.inside.pass.client mid c.args.request c.serve_to_end-answer.result sent ∙ ap (λ (p : PassState). p.client.by) c.pass.view_is)

pub returns-clause-calls : goal.returns-clause-calls
returns-clause-calls g c =
    let mid = c.serve_to_end-answer.new.pass.client in let outcome = c.serve_to_end-answer.result in
    let sent = c.serve_to_end-answer.ensures.client.0 ∙ ap (λ (p : PassState). record p.client { state = mid.state }) c.begin-request.ensures.pass in
    ap (λ (p : PassState). p.client.mine) c.answer-answer.ensures.pass
    ∙ (called c.pass.inside.pass.client mid c.args.request outcome sent
    ∙ (ap (λ (p : PassState). p.client.mine ++ Sent p.client.by c.args.request ∷ Answered p.client.by outcome ∷ []) c.pass.view_is
    ∙ ap (λ (a : Answer). c.args.pass.now.client.mine ++ Sent c.args.pass.now.client.by c.args.request ∷ Answered c.args.pass.now.client.by a ∷ []) (sym c.answer-answer.ensures.same)))
