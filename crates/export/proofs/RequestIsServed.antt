-- A request that the order serves, that is refused or that has waited comes to what the contracts of serving say.
use Rattle.std.proofs.Common.{◌≡◌, ◌∙◌, inl, inr, ◌⊎◌, ℕ, List, Result, ap, refl, subst, sym}
use Rattle.image_model.specs.Change.{Change}
use Rattle.image_model.specs.Image.{Image, apply_all}
use Rattle.image_model.specs.declared.geometry.Geometry.{Geometry}
use Rattle.marks.specs.Known.{PassState}
use Rattle.marks.specs.declared.view.Client.{Client}
use Rattle.nbd_wire.specs.Reply.{IsAnswerTo}
use Rattle.nbd_wire.specs.Request.{Message}
use Rattle.nbd_wire.specs.declared.error.Errno.{Errno}
use Rattle.nbd_wire.specs.declared.error.Errno.TheVariants.{Io}
use Rattle.nbd_wire.specs.declared.message.Answer.{Answer}
use Rattle.nbd_wire.specs.declared.message.Answer.TheVariants.{Done, Refused}
use Rattle.nbd_wire.specs.declared.message.SessionFlags.{SessionFlags}
use Rattle.order_book.specs.Order.{OrderState}
use Rattle.order_book.specs.declared.span.Span.{Span}
use Rattle.request_core.specs.Reading.{IsPlanned, IsReadOverServed}
use Rattle.request_core.specs.Serving.{IsClientServed, ready_for}
use Rattle.request_core.specs.declared.serving.Served.{Served}
use Rattle.request_core.specs.declared.serving.Served.TheVariants as served
use Rattle.request_core.specs.declared.serving.Terms.{Terms}
use Rattle.shared_store.specs.Answers.{ServesImage}
use Rattle.shared_store.specs.Orders.{SpanRead, Trusting}
use Rattle.shared_store.specs.laws.Trust.{anyway, trusting}
use Rattle.export_model.specs.Verdict.{verdict}
use Rattle.export_model.specs.declared.action.Action.{Action}
use Rattle.export_model.specs.declared.connection.Connection.{Connection}
use Rattle.export_model.specs.declared.step.Mode.{Mode}
use Rattle.export.proofs.AnswersFitRequests.{over_fits}
use Rattle.export.proofs.ClientAfterServing.{ComesTo, client_for, over_client_for, shown_client, unserved_client, waited_may}
use Rattle.export.proofs.ServedIsShown.{shown_for, told, waited_tells}
use Rattle.export.proofs.PassAfterServing.{over_served_for, waited_for}
use Rattle.export.proofs.RefusedUndone.{unserved_fits, unserved_for, unserved_tells}
use Rattle.export.specs.Submits.{IsJudged}
use Rattle.export.specs.inner.Serving.{IsServedAs, MayServe}
use Rattle.export.specs.inner.Submits.{FitsServed, IsServedFor, IsShownFor, IsUnserved, IsWaiting, IsWaitedFor}

module _ {logs trusted : Type 0} {mode : Mode} {image : Image} {opening : ℕ} {first : Image} {vouches : SpanRead → Type 0} {sure : Type 0} {own : Geometry} {request : Message} {terms : Terms}
    (old : PassState) (may : MayServe logs trusted mode image opening first vouches sure own request terms old.client) where
  abbrev Sure : Type 0 → Type 0
  Sure P = Trusting opening first vouches sure P

  abbrev ServedAs : PassState → Served → Type 0
  ServedAs new result = IsServedAs logs trusted image opening first vouches sure request terms old new result

  -- the order has served it, and its pass is shown the history if an image was served
  pub shown_as : (mid new : PassState) (before after : ℕ) (history : List Change) (result : Served) → IsServedFor opening first Sure request terms.mode old mid result → ComesTo request terms.mode before after result
      → IsClientServed mode request before after result old.client mid.client → FitsServed terms.geometry terms.flags request result → Sure (ServesImage (apply_all history first) request.head result)
      → IsShownFor history after result mid new → ServedAs new result
  shown_as mid new before after history result is comes client fits tells shown =
      let shows : Sure (ServesImage (apply_all new.history first) request.head result) = trusting opening first vouches sure (told first request.head history after mid new result shown) tells in record {
        served = shown_for opening first Sure request terms.mode old mid new history after result is shown;
        client = client_for logs trusted opening first image vouches sure terms.mode mode may.log request terms.flags terms.geometry old new may.asked mid before after result client (shown_client history after result mid new shown) comes fits shows;
        fits = fits;
        tells = shows;
      }

  -- the order has served a READ with bytes that were read without a lock
  pub over_as : (new : PassState) (span : Span) (bytes : List ℕ) (before after : OrderState) (result : Served) → IsPlanned request.head terms.geometry terms.flags span → IsReadOverServed request.head span bytes before after result
      → Sure (ServesImage (apply_all after.history first) request.head result) → IsShownFor after.history after.mark result old new → ServedAs new result
  over_as new span bytes before after result planned read tells shown =
      let fits : FitsServed terms.geometry terms.flags request result = over_fits request terms.geometry terms.flags span bytes before after result planned.passes planned.reads read in
      let shows : Sure (ServesImage (apply_all new.history first) request.head result) = trusting opening first vouches sure (told first request.head after.history after.mark old new result shown) tells in record {
        served = shown_for opening first Sure request terms.mode old old new after.history after.mark result (over_served_for opening first Sure request terms.mode old span bytes before after result read) shown;
        client = over_client_for logs trusted opening first image vouches sure terms.mode mode may.log request terms.flags terms.geometry old new may.asked span bytes before after result (shown_client after.history after.mark result old new shown) read fits shows;
        fits = fits;
        tells = shows;
      }

  -- nothing was done of it
  pub unserved_as : (new : PassState) (result : Served) → IsUnserved terms.geometry terms.flags request result → new ≡ old → ServedAs new result
  unserved_as new result is same = record {
    served = unserved_for terms.geometry terms.flags request result is opening first Sure terms.mode old new same;
    client = unserved_client logs trusted opening first image vouches sure terms.mode mode may.log request terms.flags terms.geometry old new may.asked result is same;
    fits = unserved_fits terms.geometry terms.flags request result is;
    tells = anyway opening first vouches sure (unserved_tells terms.geometry terms.flags request result is (apply_all new.history first) request.head);
  }

  -- it may be served again if it and its pass came back as they were
  pub may_again : (other : Message) (begun : PassState) → other ≡ request → begun ≡ old → MayServe logs trusted mode image opening first vouches sure own other terms begun.client
  may_again other begun same was =
      subst (λ (r : Message). MayServe logs trusted mode image opening first vouches sure own r terms begun.client) (sym same)
      (subst (λ (p : PassState). MayServe logs trusted mode image opening first vouches sure own request terms p.client) (sym was) may)

-- the answer to a request that may wait, once it has waited
waited_fits : (geometry : Geometry) (flags : SessionFlags) (request : Message) (answer : Answer) → IsWaiting geometry flags request → (answer ≡ Done) ⊎ (answer ≡ Refused Io)
    → IsAnswerTo flags request.head.kind answer × IsJudged (verdict request.head geometry flags) request answer
waited_fits geometry flags request answer waiting (inl done) =
    subst (λ (a : Answer). IsAnswerTo flags request.head.kind a × IsJudged (verdict request.head geometry flags) request a) (sym done)
    ((waiting.reads_none, waiting.tells_none), subst (λ (v : Result Action Errno). IsJudged v request Done) (sym waiting.passes) (inr (inr (inr (inl (waiting.reads_none, waiting.tells_none, refl))))))
waited_fits geometry flags request answer waiting (inr io) =
    subst (λ (a : Answer). IsAnswerTo flags request.head.kind a × IsJudged (verdict request.head geometry flags) request a) (sym io)
    (tt, subst (λ (v : Result Action Errno). IsJudged v request (Refused Io)) (sym waiting.passes) (inl refl))

module _ {logs trusted : Type 0} {image : Image} {opening : ℕ} {first : Image} {vouches : SpanRead → Type 0} {sure : Type 0} {request : Message} {terms : Terms} {old : PassState} where
  -- it has waited for its number
  pub waited_as : (mid new : PassState) (number : ℕ) (answer : Answer) → IsServedAs logs trusted image opening first vouches sure request terms old mid (served.Wait number) → IsWaitedFor number mid new answer
      → IsServedAs logs trusted image opening first vouches sure request terms old new (ready_for request.head.cookie answer)
  waited_as mid new number answer is waited = record {
    served = waited_for opening first (Trusting opening first vouches sure) request terms.mode old mid new number answer is.served waited;
    client = (
      (waited.client ∙ is.client.0) ∙ ap (λ (s : Connection). record old.client { state = s }) (sym (ap (λ (one : Client). one.state) waited.client)),
      λ given. waited_may trusted image number mid new answer (is.client.1 given) waited,
    );
    fits = waited_fits terms.geometry terms.flags request answer is.fits waited.answered;
    tells = anyway opening first vouches sure (waited_tells number mid new (apply_all new.history first) request.head answer waited);
  }

  -- there was no room for it
  pub no_room_as : IsServedAs logs trusted image opening first vouches sure request terms old old (served.NoRoom request)
  no_room_as = record { served = (refl, refl); client = tt; fits = tt; tells = anyway opening first vouches sure tt }

  -- what an equal request comes to for an equal pass
  pub equal_as : (other : Message) (begun new : PassState) (result : Served) → other ≡ request → begun ≡ old → IsServedAs logs trusted image opening first vouches sure other terms begun new result
      → IsServedAs logs trusted image opening first vouches sure request terms old new result
  equal_as other begun new result same was is =
      subst (λ (r : Message). IsServedAs logs trusted image opening first vouches sure r terms old new result) same
      (subst (λ (p : PassState). IsServedAs logs trusted image opening first vouches sure other terms p new result) was is)
