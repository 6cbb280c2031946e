-- a request of which nothing was done is answered with an error
use Rattle.std.proofs.Common.{◌≡◌, ◌≢◌, ◌⊎◌, ◌==◌, inl, inr, ℕ, false, Result, Ok, Err, refl, sym, subst, arith}
use Rattle.std.proofs.lemmas.Bool.Decides.{nat_tests}
use Rattle.image_model.specs.Image.{Image}
use Rattle.image_model.specs.declared.geometry.Geometry.{Geometry}
use Rattle.marks.specs.Known.{PassState}
use Rattle.nbd_wire.specs.Request.{Message}
use Rattle.nbd_wire.specs.declared.error.Errno.{Errno}
use Rattle.nbd_wire.specs.declared.error.Errno.TheVariants.{Io, NoMemory}
use Rattle.nbd_wire.specs.declared.message.Answer.TheVariants.{Refused}
use Rattle.nbd_wire.specs.declared.message.SessionFlags.{SessionFlags}
use Rattle.request_core.specs.declared.serving.Served.{Served}
use Rattle.export_model.specs.declared.action.Action.{Action}
use Rattle.export_model.specs.declared.action.Action.TheVariants.{Serve}
use Rattle.export_model.specs.declared.step.Mode.{Mode}
use Rattle.export.proofs.PassAfterServing.{refused_undone, unanswered}
use Rattle.export.specs.Submits.{IsJudged}
use Rattle.export.specs.inner.Submits.{FitsServed, IsServedFor, IsUnserved}
use Rattle.shared_store.specs.Answers.{ServesImage}
use Rattle.nbd_wire.specs.declared.head.RequestHead.{RequestHead}

-- the errors of requests that pass judgement
pub io_judged : (given : Result Action Errno) (request : Message) → given ≡ Ok Serve → IsJudged given request (Refused Io)
io_judged given request is = subst (λ (v : Result Action Errno). IsJudged v request (Refused Io)) (sym is) (inl refl)

no_flush : (kind : ℕ) → kind ≢ 3 → (kind == 3) ≡ false
no_flush kind other = grind (arith, nat_tests, other)

pub served_judged : (given : Result Action Errno) (request : Message) (errno : Errno) → given ≡ Ok Serve → request.head.kind ≢ 3 → (errno ≡ Io) ⊎ (errno ≡ NoMemory) → IsJudged given request (Refused errno)
served_judged given request errno is other (inl io) = subst (λ (e : Errno). IsJudged given request (Refused e)) (sym io) (io_judged given request is)
served_judged given request errno is other (inr none) =
    subst (λ (e : Errno). IsJudged given request (Refused e)) (sym none)
    (subst (λ (v : Result Action Errno). IsJudged v request (Refused NoMemory)) (sym is) (inr (inl (no_flush request.head.kind other, refl))))

pub error_judged : (given : Result Action Errno) (request : Message) (errno : Errno) → given ≡ Err errno → IsJudged given request (Refused errno)
error_judged given request errno is = subst (λ (v : Result Action Errno). IsJudged v request (Refused errno)) (sym is) refl

module _ (geometry : Geometry) (flags : SessionFlags) (request : Message) (served : Served) (is : IsUnserved geometry flags request served) where
  -- its pass is as it was
  pub unserved_for : (opening : ℕ) (first : Image) (Sure : Type 0 → Type 0) (kept : Mode) (pass next : PassState) → next ≡ pass → IsServedFor opening first Sure request kept pass next served
  unserved_for opening first Sure kept pass next same =
      unanswered opening first Sure request kept pass next request.head.cookie (Refused is.errno) served (refused_undone is.errno) same is.answer

  pub unserved_fits : FitsServed geometry flags request served
  unserved_fits = subst (FitsServed geometry flags request) (sym is.answer) (tt, is.judged)

  pub unserved_tells : (image : Image) (head : RequestHead) → ServesImage image head served
  unserved_tells image head = subst (ServesImage image head) (sym is.answer) tt
