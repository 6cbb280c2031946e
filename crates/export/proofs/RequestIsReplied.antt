-- A request that was served gets its reply, at once or once it has waited.
use Rattle.std.proofs.Common.{◌≡◌, ◌≤◌, ◌∙◌, ℕ, ap, refl, subst, sym, arith}
use mathlib.Core.List.{IsPrefix}
use Rattle.export.specs.Begun.{IsBegun, WaitingState}
use Rattle.export.specs.Submits.{IsJudged, IsReplied, IsSubmitted}
use Rattle.export.specs.inner.Serving.{IsServedAs}
use Rattle.export.specs.inner.Submits.{IsWaitedFor}
use Rattle.export.proofs.PassAcrossRequest.{begun_for, called, called_by}
use Rattle.export.proofs.PassAfterWait.{IsLater}
use Rattle.export.proofs.RequestIsServed.{waited_as}
use Rattle.export_model.specs.Verdict.{verdict}
use Rattle.image_model.specs.Image.{Image, apply_all}
use Rattle.marks.specs.Client.{answering, sending}
use Rattle.marks.specs.Known.{PassState, known}
use Rattle.marks.specs.declared.view.Client.{Client}
use Rattle.marks.specs.laws.Beginnings.{prefix_trans}
use Rattle.nbd_wire.specs.Reply.{IsAnswerTo}
use Rattle.nbd_wire.specs.Request.{Message}
use Rattle.nbd_wire.specs.declared.message.Answer.{Answer}
use Rattle.request_core.specs.Serving.{ready_for}
use Rattle.request_core.specs.declared.serving.Served.TheVariants as served
use Rattle.request_core.specs.declared.serving.Terms.{Terms}
use Rattle.shared_store.specs.Answers.{TellsImage}
use Rattle.shared_store.specs.Orders.{SpanRead, Trusting}

module _ (logs trusted : Type 0) (image : Image) (opening : ℕ) (first : Image) (vouches : SpanRead → Type 0) (sure : Type 0) (request sent : Message) (terms : Terms) (old begun : PassState)
    (same : sent ≡ request) (more : known old ≤ begun.accepted) (seen : IsPrefix old.history begun.history)
    (began : begun ≡ record old { history = begun.history; accepted = begun.accepted; client = sending old.client request }) where
  abbrev Sure : Type 0 → Type 0
  Sure P = Trusting opening first vouches sure P

  -- it was served, and got an answer
  pub replied : (mid : PassState) (answer : Answer) → IsServedAs logs trusted image opening first vouches sure sent terms begun mid (ready_for sent.head.cookie answer)
      → IsReplied opening first Sure request terms.mode terms.geometry terms.flags old (record mid { client = answering mid.client answer }) (record { cookie = request.head.cookie; answer = answer })
  replied mid answer is =
      let began' : begun ≡ record old { history = begun.history; accepted = begun.accepted; client = begun.client } =
      began ∙ ap (λ (one : Client). record old { history = begun.history; accepted = begun.accepted; client = one }) (sym (ap (λ (p : PassState). p.client) began)) in
      let logged : mid.client ≡ record (sending old.client request) { state = mid.client.state } = is.client.0 ∙ ap (λ (p : PassState). record p.client { state = mid.client.state }) began in record {
        cookie = refl;
        submitted = subst (λ (r : Message). IsSubmitted opening first Sure r terms.mode old (record mid { client = answering mid.client answer }) answer) same
            (begun_for opening first Sure sent terms.mode old begun mid (answering mid.client answer) more seen began' answer is.served);
        kind = subst (λ (r : Message). IsAnswerTo terms.flags r.head.kind answer) same is.fits.0;
        judged = subst (λ (r : Message). IsJudged (verdict r.head terms.geometry terms.flags) r answer) same is.fits.1;
        tells = subst (λ (r : Message). Sure (TellsImage (apply_all mid.history first) r.head answer)) same is.tells;
        by = called_by old.client mid.client request answer logged;
        calls = called old.client mid.client request answer logged;
      }

  -- it was served, and waits
  pub begun_is : (waiting : WaitingState) → waiting.cookie ≡ request.head.cookie → IsServedAs logs trusted image opening first vouches sure sent terms begun waiting.pass (served.Wait waiting.number)
      → IsBegun opening first Sure request terms.mode terms.geometry terms.flags old waiting
  begun_is waiting cookie is = record { cookie = cookie; replied = λ after answer waited. replied after answer (waited_as waiting.pass after waiting.number answer is waited) }

-- what its pass has come to know while it waited, and afterwards
pub waited_later : (number : ℕ) (old mid new : PassState) (answer : Answer) → IsWaitedFor number old mid answer → IsLater mid new → IsWaitedFor number old new answer
waited_later number old mid new answer is later = record {
  answered = is.answered;
  done = λ done. let reached = is.done done in let lasts = later.lasts in omega (arith, reached, lasts);
  own = later.own ∙ is.own;
  client = later.client ∙ is.client;
  knew = prefix_trans old.history mid.history new.history is.knew later.knew;
  lasts = let before = is.lasts in let after = later.lasts in omega (arith, before, after);
}
