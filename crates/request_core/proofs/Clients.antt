-- what a client is at once its request was served
use Rattle.std.specs.Prelude.{MatchBool}
use Rattle.std.proofs.Common.{◌≡◌, ◌+◌, ◌==◌, ℕ, Bool, true, false, if◌then◌else◌, List, nat_lt, ⊎_elim, inl, inr, ap, refl, sym, subst, arith, ◌∙◌}
use Rattle.std.proofs.lemmas.Bool.{lt-ltb}
use Rattle.std.proofs.lemmas.Bool.Decides.{nat_tests}
use Rattle.alloc_map.specs.Codes.{state_at}
use Rattle.device_image.specs.Keeper.{KeeperState}
use Rattle.disk_model.specs.Disk.{State}
use Rattle.image_model.specs.Image.{Image}
use Rattle.marks.specs.Client.{accepting, flushing}
use Rattle.marks.specs.declared.view.Client.{Client}
use Rattle.nbd_wire.specs.Answer.{BytesRead}
use Rattle.nbd_wire.specs.Request.{Message}
use Rattle.nbd_wire.specs.declared.error.Errno.{Errno}
use Rattle.nbd_wire.specs.declared.error.Errno.TheVariants.{Io, NoMemory}
use Rattle.nbd_wire.specs.declared.head.RequestHead.{RequestHead}
use Rattle.nbd_wire.specs.declared.message.Answer.{Answer}
use Rattle.nbd_wire.specs.declared.message.Answer.TheVariants.{Bytes, Refused, States}
use Rattle.nbd_wire.specs.declared.message.Run.{Run}
use Rattle.order_book.specs.Edits.{HasAskedEdit}
use Rattle.order_book.specs.Order.{OrderState}
use Rattle.request_core.specs.Reading.{IsHeldReadServed, IsReadServed, IsStatusServed}
use Rattle.request_core.specs.Serving.{HasSent, IsClientAnswered, IsClientServed, ready_for, served_after}
use Rattle.request_core.specs.declared.serving.Served.{Served}
use Rattle.export_model.specs.Log.{edit_asked, is_flush, is_write}
use Rattle.export_model.specs.Shown.{shown_by}
use Rattle.export_model.specs.declared.step.Mode.{Mode}

-- a client that has sent a write request has asked for its edit
pub asked_edit : (trusted : Type 0) (image : Image) (order : OrderState) (request : Message) (client : Client) → is_write request ≡ true → HasSent trusted image order request client
    → HasAskedEdit trusted image order (edit_asked request) client
asked_edit trusted image order request client write sent = record { speaks = sent.speaks; request = request; asks = sent.asks; write = write; asked = refl; shows = sent.shows }

-- bytes and states of an image leave a client
shown_leaves : (mode : Mode) (number : ℕ) (image : Image) (head : RequestHead) (client : Client) → IsClientAnswered mode number (shown_by image head) client client
shown_leaves mode number image head client = by (head.kind == 0) _ _
  where
    by : (b : Bool) (read : BytesRead) (runs : List Run) → IsClientAnswered mode number (if b then Bytes read else States runs) client client
    by true read runs = refl
    by false read runs = refl

module _ (mode : Mode) (request : Message) (before after : ℕ) (same : after ≡ before) (result : Served) (client : Client) where
  answered : (cookie : ℕ) (given : Answer) → IsClientAnswered mode after given client client → result ≡ ready_for cookie given → IsClientServed mode request before after result client client
  answered cookie given left is =
      let none : nat_lt before after ≡ false = grind (arith, nat_tests, same) in
      subst (λ (r : Served). IsClientServed mode request before after r client client) (sym is)
      (subst (λ (b : Bool). MatchBool b (client ≡ accepting mode after client) (IsClientAnswered mode after given client client)) (sym none) left)

  pub client_status : (head : RequestHead) (order : OrderState) → IsStatusServed head order result → IsClientServed mode request before after result client client
  client_status head order served =
      let image : Image = record { blocks = 0; byte = λ place. 0; kind = state_at order.cache.states } in
      ⊎_elim (λ is. answered head.cookie (Refused NoMemory) refl is) (λ shows. answered head.cookie _ (shown_leaves mode after image head client) (shows image (λ block. refl))) served

  pub client_held : (head : RequestHead) (order : OrderState) → IsHeldReadServed head order result → IsClientServed mode request before after result client client
  client_held head order served = ⊎_elim (λ is. answered head.cookie (Refused NoMemory) refl is) (λ read. answered head.cookie _ (shown_leaves mode after read.image head client) read.answer) served

  pub client_refused : (cookie : ℕ) (errno : Errno) (next : Client) → result ≡ ready_for cookie (Refused errno) → next ≡ client → IsClientServed mode request before after result client next
  client_refused cookie errno next is known = subst (IsClientServed mode request before after result client) (sym known) (answered cookie (Refused errno) refl is)

-- a READ with the device
pub client_read : {D : Type 0} (state : D → State) (faults : D → ℕ) (honest : D → Type 0) (mode : Mode) (request : Message) (head : RequestHead) (old new : OrderState) (keeper next : KeeperState D) (result : Served) (client : Client)
    → IsReadServed state faults honest head old new keeper next result → IsClientServed mode request old.mark new.mark result client client
client_read state faults honest mode request head old new keeper next result client (inl none) = answered mode request old.mark new.mark (ap (λ (o : OrderState). o.mark) none.0) result client head.cookie (Refused NoMemory) refl none.2
client_read state faults honest mode request head old new keeper next result client (inr (inl read)) =
    answered mode request old.mark new.mark (ap (λ (o : OrderState). o.mark) read.order) result client head.cookie _ (shown_leaves mode new.mark read.image head client) read.answer
client_read state faults honest mode request head old new keeper next result client (inr (inr unread)) =
    answered mode request old.mark new.mark (ap (λ (o : OrderState). o.mark) unread.order) result client head.cookie (Refused Io) refl unread.answer

-- a write command that was accepted
pub client_taken : (mode : Mode) (request : Message) (before after : ℕ) (waits : Bool) (result : Served) (old new : Client) → is_flush request ≡ false → after ≡ before + 1
    → new ≡ accepting mode (before + 1) old → result ≡ served_after waits request.head.cookie (before + 1) → IsClientServed mode request before after result old new
client_taken mode request before after waits result old new other next is came = subst (λ (r : Served). IsClientServed mode request before after r old new) (sym came) (by waits)
  where
    by : (waits : Bool) → IsClientServed mode request before after (served_after waits request.head.cookie (before + 1)) old new
    by true = subst (λ (b : Bool). MatchBool b (new ≡ flushing mode (before + 1) old) (new ≡ accepting mode (before + 1) old)) (sym other) is
    by false =
        let more : nat_lt before after ≡ true = ap (nat_lt before) next ∙ lt-ltb before (before + 1) (omega arith) in
        subst (λ (b : Bool). MatchBool b (new ≡ accepting mode after old) (new ≡ flushing mode after old)) (sym more) (is ∙ ap (λ (n : ℕ). accepting mode n old) (sym next))

-- a FLUSH that was shown all of the order
pub client_flushed : (mode : Mode) (request : Message) (before after number : ℕ) (waits : Bool) (cookie : ℕ) (result : Served) (old new : Client) → is_flush request ≡ true → after ≡ before → number ≡ after
    → new ≡ flushing mode number old → result ≡ served_after waits cookie number → IsClientServed mode request before after result old new
client_flushed mode request before after number waits cookie result old new flush level same is came = subst (λ (r : Served). IsClientServed mode request before after r old new) (sym came) (by waits)
  where
    by : (waits : Bool) → IsClientServed mode request before after (served_after waits cookie number) old new
    by true = subst (λ (b : Bool). MatchBool b (new ≡ flushing mode number old) (new ≡ accepting mode number old)) (sym flush) is
    by false =
        let none : nat_lt before after ≡ false = grind (arith, nat_tests, level) in
        subst (λ (b : Bool). MatchBool b (new ≡ accepting mode after old) (new ≡ flushing mode after old)) (sym none) (is ∙ ap (λ (n : ℕ). flushing mode n old) same)
