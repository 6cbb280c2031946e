-- what was served is shown to its pass
use Rattle.std.proofs.Common.{◌≡◌, ◌≢◌, ◌⊎◌, ◌∙◌, inl, inr, ℕ, false, true, List, [], ◌∷◌, ◌++◌, ap, refl, sym, subst, arith}
use mathlib.Core.List.{IsPrefix}
use Rattle.image_model.specs.Change.{Change}
use Rattle.image_model.specs.Edit.{becomes}
use Rattle.image_model.specs.Image.{Image, apply_all}
use Rattle.marks.specs.laws.Beginnings.{prefix_trans}
use Rattle.marks.specs.Known.{PassState}
use Rattle.nbd_wire.specs.Request.{Message}
use Rattle.nbd_wire.specs.declared.error.Errno.{Errno}
use Rattle.nbd_wire.specs.declared.error.Errno.TheVariants.{Io}
use Rattle.nbd_wire.specs.declared.head.RequestHead.{RequestHead}
use Rattle.nbd_wire.specs.declared.message.Answer.{Answer}
use Rattle.nbd_wire.specs.declared.message.Answer.TheVariants.{Bytes, Done, Refused, States}
use Rattle.request_core.specs.declared.serving.Served.{Served}
use Rattle.request_core.specs.declared.serving.Served.TheVariants as served
use Rattle.export_model.specs.Log.{edit_asked, is_write}
use Rattle.export_model.specs.Shown.{shown_by}
use Rattle.export_model.specs.declared.step.Mode.{Mode}
use Rattle.shared_store.specs.Answers.{ServesImage, TellsImage}
use Rattle.export.specs.Submits.{IsAccepted, IsSubmitted}
use Rattle.export.specs.inner.Submits.{IsServedFor, IsShownFor, IsWaitedFor, is_of_image}

-- The pass is shown all of the history after what was served for it.
module _ (opening : ℕ) (first : Image) (Sure : Type 0 → Type 0) (request : Message) (kept : Mode) (old mid new : PassState) (history : List Change) (mark : ℕ) where
  shown_behind : (answer : Answer) → answer ≢ Done → ((errno : Errno) → answer ≢ Refused errno) → IsSubmitted opening first Sure request kept old mid answer → IsPrefix mid.history new.history
      → new ≡ record mid { history = history; accepted = mark } → IsSubmitted opening first Sure request kept old new answer
  shown_behind answer undone answered is knew shown = record {
    knew = prefix_trans old.history mid.history new.history is.knew knew;
    lasts = let first = is.lasts in let same = ap (λ (p : PassState). p.durable) shown in omega (arith, first, same);
    written = λ done. absurd (undone done);
    ordered = λ done. absurd (undone done);
    flushed = λ done. absurd (undone done);
    covered = λ done. absurd (undone done);
    refused = λ errno is_errno. absurd (answered errno is_errno);
    own = by is.own;
  }
    where
      same : new.own ≡ mid.own
      same = ap (λ (p : PassState). p.own) shown

      by : (mid.own ≡ old.own) ⊎ ((is_write request ≡ true) × (number : ℕ) × IsAccepted opening first Sure request number old mid)
          → (new.own ≡ old.own) ⊎ ((is_write request ≡ true) × (number : ℕ) × IsAccepted opening first Sure request number old new)
      by (inl kept) = inl (same ∙ kept)
      by (inr (write, number, own)) = inr (
        write,
        number,
        record {
          above = own.above;
          image = own.image;
          own = same ∙ own.own;
          earlier = own.earlier;
          knew = own.knew;
          place = own.place;
          within = prefix_trans (own.earlier ++ becomes (edit_asked request) own.image ∷ []) mid.history new.history own.within knew;
          over = own.over;
        },
      )

  by_answer : (answer : Answer) → IsSubmitted opening first Sure request kept old mid answer → IsPrefix mid.history new.history
      → (is_of_image answer ≡ true → new ≡ record mid { history = history; accepted = mark }) → (is_of_image answer ≡ false → new ≡ mid)
      → IsSubmitted opening first Sure request kept old new answer
  by_answer Done is knew shown left = subst (λ (p : PassState). IsSubmitted opening first Sure request kept old p Done) (sym (left refl)) is
  by_answer (Refused errno) is knew shown left = subst (λ (p : PassState). IsSubmitted opening first Sure request kept old p (Refused errno)) (sym (left refl)) is
  by_answer (Bytes read) is knew shown left = shown_behind (Bytes read) (λ done. cc) (λ errno refused. cc) is knew (shown refl)
  by_answer (States runs) is knew shown left = shown_behind (States runs) (λ done. cc) (λ errno refused. cc) is knew (shown refl)

  pub shown_for : (result : Served) → IsServedFor opening first Sure request kept old mid result → IsShownFor history mark result mid new → IsServedFor opening first Sure request kept old new result
  shown_for (served.Ready reply) is shown = by_answer reply.answer is shown.knew shown.shown shown.kept
  shown_for (served.Wait number) is shown = subst (λ (p : PassState). IsServedFor opening first Sure request kept old p (served.Wait number)) (sym (shown.kept refl)) is
  shown_for (served.NoRoom back) is shown = subst (λ (p : PassState). IsServedFor opening first Sure request kept old p (served.NoRoom back)) (sym (shown.kept refl)) is

-- What was served is the image's after the history that the pass then knows.
module _ (first : Image) (head : RequestHead) (history : List Change) (mark : ℕ) (mid new : PassState) where
  told_answer : (answer : Answer) → TellsImage (apply_all history first) head answer → (is_of_image answer ≡ true → new ≡ record mid { history = history; accepted = mark })
      → TellsImage (apply_all new.history first) head answer
  told_answer Done is shown = tt
  told_answer (Refused errno) is shown = tt
  told_answer (Bytes read) is shown = subst (λ (h : List Change). Bytes read ≡ shown_by (apply_all h first) head) (sym (ap (λ (p : PassState). p.history) (shown refl))) is
  told_answer (States runs) is shown = subst (λ (h : List Change). States runs ≡ shown_by (apply_all h first) head) (sym (ap (λ (p : PassState). p.history) (shown refl))) is

  pub told : (result : Served) → IsShownFor history mark result mid new → ServesImage (apply_all history first) head result → ServesImage (apply_all new.history first) head result
  told (served.Ready reply) shown is = told_answer reply.answer is shown.shown
  told (served.Wait number) shown is = tt
  told (served.NoRoom back) shown is = tt

-- An answer that was waited for tells nothing of the image.
pub waited_tells : (number : ℕ) (old new : PassState) (image : Image) (head : RequestHead) (answer : Answer) → IsWaitedFor number old new answer → TellsImage image head answer
waited_tells number old new image head answer is = by is.answered
  where
    by : (answer ≡ Done) ⊎ (answer ≡ Refused Io) → TellsImage image head answer
    by (inl done) = subst (TellsImage image head) (sym done) tt
    by (inr refused) = subst (TellsImage image head) (sym refused) tt
