-- what a pass knows once a BLOCK_STATUS was answered
use Rattle.std.specs.Prelude.{MatchBool}
use Rattle.std.proofs.Common.{◌≡◌, ◌<◌, ◌==◌, ℕ, Bool, true, false, if◌then◌else◌, List, nat_lt, ⊎_elim, refl, sym, subst, arith}
use Rattle.std.proofs.lemmas.Bool.Decides.{nat_tests}
use Rattle.alloc_map.specs.Codes.{state_at}
use Rattle.image_model.specs.Image.{Image}
use Rattle.marks.specs.Known.{PassState}
use Rattle.nbd_wire.specs.Request.{Message}
use Rattle.nbd_wire.specs.declared.head.RequestHead.{RequestHead}
use Rattle.nbd_wire.specs.declared.message.Answer.{Answer}
use Rattle.nbd_wire.specs.Answer.{BytesRead}
use Rattle.nbd_wire.specs.declared.error.Errno.{Errno}
use Rattle.nbd_wire.specs.declared.error.Errno.TheVariants.{NoMemory}
use Rattle.nbd_wire.specs.declared.message.Answer.TheVariants.{Bytes, Refused, States}
use Rattle.nbd_wire.specs.declared.message.Run.{Run}
use Rattle.export_model.specs.Shown.{shown_by}
use Rattle.order_book.specs.Order.{OrderState}
use Rattle.request_core.specs.Reading.{IsHeldReadServed, IsStatusServed}
use Rattle.request_core.specs.Serving.{IsAcceptedFor, IsAnsweredFor, IsPassServed, ready_for}
use Rattle.request_core.specs.declared.serving.Served.{Served}

is_same : (number : ℕ) → nat_lt number number ≡ false
is_same number = grind (arith, nat_tests)

-- bytes and states of an image leave a pass
pub shown_leaves : (opening number : ℕ) (image : Image) (head : RequestHead) (pass : PassState) → IsAnsweredFor opening number (shown_by image head) pass pass
shown_leaves opening number image head pass = by (head.kind == 0) _ _
  where
    by : (b : Bool) (read : BytesRead) (runs : List Run) → IsAnsweredFor opening number (if b then Bytes read else States runs) pass pass
    by true read runs = refl
    by false read runs = refl

module _ (opening : ℕ) (request : Message) (number : ℕ) (result : Served) (pass : PassState) where
  pass_answered : (cookie : ℕ) (given : Answer) → IsAnsweredFor opening number given pass pass → result ≡ ready_for cookie given → IsPassServed opening request number number result pass pass
  pass_answered cookie given left is =
      subst (λ (r : Served). IsPassServed opening request number number r pass pass) (sym is)
      (subst (λ (b : Bool). MatchBool b (IsAcceptedFor opening request number pass pass) (IsAnsweredFor opening number given pass pass)) (sym (is_same number)) left)

  -- it changes no number, and its pass knows what it knew
  pub status_passes : (head : RequestHead) (order : OrderState) → IsStatusServed head order result → IsPassServed opening request number number result pass pass
  status_passes head order served =
      let image : Image = record { blocks = 0; byte = λ place. 0; kind = state_at order.cache.states } in
      ⊎_elim (λ is. pass_answered head.cookie (Refused NoMemory) refl is) (λ shows. pass_answered head.cookie _ (shown_leaves opening number image head pass) (shows image (λ block. refl))) served

  -- so does a READ of blocks in memory
  pub held_passes : (head : RequestHead) (order : OrderState) → IsHeldReadServed head order result → IsPassServed opening request number number result pass pass
  held_passes head order served = ⊎_elim (λ is. pass_answered head.cookie (Refused NoMemory) refl is) (λ read. pass_answered head.cookie _ (shown_leaves opening number read.image head pass) read.answer) served

  -- and a request that is refused
  pub refused_passes : (cookie : ℕ) (errno : Errno) (after : ℕ) (next : PassState) → result ≡ ready_for cookie (Refused errno) → after ≡ number → next ≡ pass → IsPassServed opening request number after result pass next
  refused_passes cookie errno after next is same known =
      subst (λ (n : ℕ). IsPassServed opening request number n result pass next) (sym same)
      (subst (λ (p : PassState). IsPassServed opening request number number result pass p) (sym known) (pass_answered cookie (Refused errno) refl is))

pub not_grown : {X : Type 0} (before after : ℕ) → after ≡ before → before < after → X
not_grown before after same more = absurd (omega (arith, same, more))
