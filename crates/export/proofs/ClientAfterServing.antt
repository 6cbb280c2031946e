-- What a client may be answered once its request was served.
use Rattle.std.specs.Prelude.{MatchBool}
use Rattle.std.proofs.Common.{◌≡◌, ◌≢◌, ◌⊎◌, ◌∙◌, ◌+◌, inl, inr, ℕ, Bool, false, true, nat_lt, List, ap, refl, sym, subst, arith, Result, Ok, Err}
use Rattle.std.proofs.lemmas.Bool.{cases_Bool, lt-ltb}
use Rattle.alloc_map.specs.Codes.{state_at}
use Rattle.device_image.specs.Keeper.{KeeperState}
use Rattle.disk_model.specs.Disk.{State}
use Rattle.image_model.specs.Change.{Change}
use Rattle.image_model.specs.Image.{Image, apply_all}
use Rattle.image_model.specs.declared.geometry.Geometry.{Geometry}
use Rattle.marks.specs.Client.{accepting, flushing, waiting_by}
use Rattle.marks.specs.Known.{PassState}
use Rattle.marks.specs.declared.view.Client.{Client}
use Rattle.nbd_wire.specs.Reply.{IsAnswerTo}
use Rattle.nbd_wire.specs.Request.{Message}
use Rattle.nbd_wire.specs.declared.error.Errno.{Errno}
use Rattle.nbd_wire.specs.declared.error.Errno.TheVariants.{Io, NoMemory, NoSpace}
use Rattle.nbd_wire.specs.declared.message.Answer.{Answer}
use Rattle.nbd_wire.specs.declared.message.Answer.TheVariants.{Bytes, Done, Refused, States}
use Rattle.nbd_wire.specs.declared.message.SessionFlags.{SessionFlags}
use Rattle.order_book.specs.Edits.{IsKnownBy}
use Rattle.order_book.specs.Order.{OrderState}
use Rattle.order_book.specs.Shown.{ShowsImage}
use Rattle.order_book.specs.declared.span.Span.{Span}
use Rattle.request_core.specs.Outcomes.{IsPassed, IsServedBy, IsServedHere}
use Rattle.request_core.specs.Reading.{IsReadOverServed, IsStatusServed}
use Rattle.request_core.specs.Serving.{IsClientAnswered, IsClientServed, IsWriteServed, ready_for, served_after}
use Rattle.request_core.specs.declared.serving.Served.{Served}
use Rattle.request_core.specs.declared.serving.Served.TheVariants as served
use Rattle.shared_store.specs.Answers.{ServesImage, TellsImage}
use Rattle.shared_store.specs.Logs.{IsAt, IsLogOf}
use Rattle.shared_store.specs.Orders.{SpanRead, Trusting}
use Rattle.shared_store.specs.laws.Trust.{anyway, logged}
use Rattle.export_model.specs.Answers.{MayAnswer}
use Rattle.export_model.specs.Log.{flush_waits, is_flush, is_read_type, waits_for_store}
use Rattle.export_model.specs.Serve.{state_after}
use Rattle.export_model.specs.Shown.{shown_by}
use Rattle.export_model.specs.declared.action.Action.{Action}
use Rattle.export_model.specs.declared.action.Action.TheVariants.{End, Serve}
use Rattle.export_model.specs.declared.connection.Connection.{Connection}
use Rattle.export_model.specs.declared.connection.Connection.TheVariants.{Requested, Waiting}
use Rattle.export_model.specs.declared.step.Mode.{Mode}
use Rattle.export.proofs.PassAfterServing.{no_less, refused_undone, shown_undone, write_flushes_none}
use Rattle.export.proofs.RefusedUndone.{unserved_fits, unserved_tells}
use Rattle.export.specs.inner.Submits.{FitsServed, IsClientFor, IsShownFor, IsUnserved, IsWaitedFor, serves_image}

-- What serving a request comes to: an answer other than Ok, by which the order has no command more; a FLUSH or a write command that waits
-- or is done; or there is no room.
abbrev pub ComesTo : Message → Mode → ℕ → ℕ → Served → Type 0
ComesTo request kept before after result =
    ((answer : Answer) × (answer ≢ Done) × (after ≡ before) × (result ≡ ready_for request.head.cookie answer))
    ⊎ ((is_flush request ≡ true) × (after ≡ before) × (result ≡ served_after (flush_waits kept) request.head.cookie before))
    ⊎ ((is_flush request ≡ false) × (after ≡ before + 1) × (result ≡ served_after (waits_for_store kept request) request.head.cookie (before + 1)))
    ⊎ (result ≡ served.NoRoom request)

module _ (request : Message) (geometry : Geometry) (kept : Mode) (old new : OrderState) (result : Served) where
  abbrev Comes : Type 0
  Comes = ComesTo request kept old.mark new.mark result

  unmoved : (answer : Answer) → answer ≢ Done → new.mark ≡ old.mark → result ≡ ready_for request.head.cookie answer → Comes
  unmoved answer undone same is = inl (answer, undone, same, is)

  as_it_was : (answer : Answer) → answer ≢ Done → new ≡ old → result ≡ ready_for request.head.cookie answer → Comes
  as_it_was answer undone same = unmoved answer undone (ap (λ (o : OrderState). o.mark) same)

  by_status : new ≡ old → IsStatusServed request.head old result → Comes
  by_status same (inl none) = as_it_was _ (refused_undone NoMemory) same none
  by_status same (inr shows) =
      let image : Image = record { blocks = 0; byte = λ place. 0; kind = state_at old.cache.states } in
      as_it_was _ (shown_undone image request.head) same (shows image (λ block. refl))

  by_write : (own : Image → Type 0) → is_flush request ≡ false → IsWriteServed request geometry kept own old new result → Comes
  by_write own other (inl full) = as_it_was _ (refused_undone NoSpace) full.1 full.2
  by_write own other (inr (left, image, inl room)) = inr (inr (inr room.2))
  by_write own other (inr (left, image, inr (inl none))) = as_it_was _ (refused_undone NoMemory) none.1 none.2
  by_write own other (inr (left, image, inr (inr (taken, done)))) = inr (inr (inl (other, ap (λ (o : OrderState). o.mark) taken.more.2, done)))

  by_passed : IsPassed request geometry kept old new result → Comes
  by_passed (inl stopped) = as_it_was _ (refused_undone Io) stopped.1 stopped.2
  by_passed (inr (inl flush)) = inr (inl (flush.1, ap (λ (o : OrderState). o.mark) flush.2, flush.3))
  by_passed (inr (inr (inl status))) = by_status status.2 status.3
  by_passed (inr (inr (inr write))) = by_write (λ image. ShowsImage image old.cache) write.1 write.4

  pub comes_here : (given : Result Action Errno) → IsServedHere given request geometry kept old new result → Comes
  comes_here (Ok End) here = absurd here
  comes_here (Ok Serve) (inl by) = by_passed by
  comes_here (Ok Serve) (inr (works, kind, same, inl none)) = as_it_was _ (refused_undone NoMemory) same none
  comes_here (Ok Serve) (inr (works, kind, same, inr read)) = as_it_was _ (shown_undone read.image request.head) same read.answer
  comes_here (Err errno) here = as_it_was _ (refused_undone errno) here.0 here.1

  pub comes_with : {D : Type 0} (state : D → State) (faults : D → ℕ) (honest : D → Type 0) (keeper left : KeeperState D) (given : Result Action Errno)
      → IsServedBy state faults honest given request geometry kept old new keeper left result → Comes
  comes_with state faults honest keeper left (Ok End) by = absurd by
  comes_with state faults honest keeper left (Ok Serve) (inl by) = by_passed by.1
  comes_with state faults honest keeper left (Ok Serve) (inr (inl (works, kind, inl none))) = as_it_was _ (refused_undone NoMemory) none.0 none.2
  comes_with state faults honest keeper left (Ok Serve) (inr (inl (works, kind, inr (inl read)))) = unmoved _ (shown_undone read.image request.head) (ap (λ (o : OrderState). o.mark) read.order) read.answer
  comes_with state faults honest keeper left (Ok Serve) (inr (inl (works, kind, inr (inr unread)))) = unmoved _ (refused_undone Io) (ap (λ (o : OrderState). o.mark) unread.order) unread.answer
  comes_with state faults honest keeper left (Ok Serve) (inr (inr (works, write, inl edit))) = by_write (IsKnownBy state honest keeper old) (write_flushes_none request.head.kind write) edit.served
  comes_with state faults honest keeper left (Ok Serve) (inr (inr (works, write, inr edit))) = unmoved _ (refused_undone Io) (ap (λ (o : OrderState). o.mark) edit.unread.order) edit.unread.answer
  comes_with state faults honest keeper left (Err errno) by = as_it_was _ (refused_undone errno) by.1 by.2

-- what a pass is shown leaves its client
pub shown_client : (history : List Change) (mark : ℕ) (result : Served) (mid new : PassState) → IsShownFor history mark result mid new → new.client ≡ mid.client
shown_client history mark result mid new is = by (cases_Bool (serves_image result))
  where
    by : (serves_image result ≡ true) ⊎ (serves_image result ≡ false) → new.client ≡ mid.client
    by (inl shows) = ap (λ (p : PassState). p.client) (is.shown shows)
    by (inr not) = ap (λ (p : PassState). p.client) (is.kept not)

-- an answer that isn't Ok leaves a client
client_left : (mode : Mode) (number : ℕ) (answer : Answer) (old new : Client) → answer ≢ Done → IsClientAnswered mode number answer old new → new ≡ old
client_left mode number Done old new undone is = absurd (undone refl)
client_left mode number (Refused errno) old new undone is = is
client_left mode number (Bytes read) old new undone is = is
client_left mode number (States runs) old new undone is = is

next_more : (before after : ℕ) → after ≡ before + 1 → nat_lt before after ≡ true
next_more before after grown = ap (nat_lt before) grown ∙ lt-ltb before (before + 1) (omega arith)

module _ (logs trusted : Type 0) (opening : ℕ) (first image : Image) (vouches : SpanRead → Type 0) (sure : Type 0) (kept mode : Mode) (log : logs → IsLogOf opening first vouches sure kept trusted mode image)
    (request : Message) (flags : SessionFlags) (geometry : Geometry) (pass next : PassState) (asked : logs → IsAt request pass.client) where
  abbrev For : Served → Type 0
  For result = IsClientFor logs trusted image pass next result

  abbrev Tells : Served → Type 0
  Tells result = Trusting opening first vouches sure (ServesImage (apply_all next.history first) request.head result)

  -- what is trusted holds of the log's image
  right : (answer : Answer) → logs → Trusting opening first vouches sure (answer ≡ shown_by (apply_all next.history first) request.head) → trusted → answer ≡ shown_by (apply_all next.history image) request.head
  right answer given tells trusts =
      subst (λ (i : Image). answer ≡ shown_by (apply_all next.history i) request.head) (sym (log given).image_is)
      (logged opening first vouches sure kept trusted mode image (log given) trusts tells)

  -- an open request may be refused, or shown
  may_show : (answer : Answer) → answer ≢ Done → IsAnswerTo flags request.head.kind answer → Trusting opening first vouches sure (TellsImage (apply_all next.history first) request.head answer) → logs
      → MayAnswer trusted image next.durable next.history (Requested request) answer
  may_show Done undone fits tells given = absurd (undone refl)
  may_show (Refused errno) undone fits tells given = inl (errno, refl)
  may_show (Bytes read) undone fits tells given = inr (record { read = ap is_read_type fits; given = λ errno is. cc; no_done = undone; right = right (Bytes read) given tells })
  may_show (States runs) undone fits tells given = inr (record { read = ap is_read_type fits.0; given = λ errno is. cc; no_done = undone; right = right (States runs) given tells })

  state_only : (state : Connection) → next.client ≡ record pass.client { state = state } → next.client ≡ record pass.client { state = next.client.state }
  state_only state is = is ∙ ap (λ (s : Connection). record pass.client { state = s }) (sym (ap (λ (c : Client). c.state) is))

  -- what is answered and isn't Ok, of a client that is at its request still
  quiet_for : (cookie : ℕ) (answer : Answer) (result : Served) → answer ≢ Done → next.client ≡ pass.client → result ≡ ready_for cookie answer → FitsServed geometry flags request result → Tells result → For result
  quiet_for cookie answer result undone same is fits tells =
      subst For (sym is) (
        state_only pass.client.state same,
        λ given. subst (λ (s : Connection). MayAnswer trusted image next.durable next.history s answer) (sym (ap (λ (c : Client). c.state) same ∙ (asked given).asks))
            (may_show answer undone (subst (FitsServed geometry flags request) is fits).0 (subst Tells is tells) given),
      )

  -- a client that waits for the number, or is due Ok
  by_waits : (waits : Bool) (number cookie : ℕ) (result : Served) (state : Connection) → result ≡ served_after waits cookie number → next.client ≡ record pass.client { state = state } → (logs → state ≡ state_after waits number) → For result
  by_waits true number cookie result state is left at = subst For (sym is) (state_only state left, λ given. ap (λ (c : Client). c.state) left ∙ at given)
  by_waits false number cookie result state is left at =
      subst For (sym is)
      (state_only state left, λ given. subst (λ (s : Connection). MayAnswer trusted image next.durable next.history s Done) (sym (ap (λ (c : Client). c.state) left ∙ at given)) (refl, refl))

  flush_state : (number : ℕ) → logs → waiting_by (λ other. flush_waits mode) number pass.client.state ≡ state_after (flush_waits kept) number
  flush_state number given = ap (waiting_by (λ other. flush_waits mode) number) (asked given).asks ∙ ap (λ (m : Mode). state_after (flush_waits m) number) (log given).mode_is

  write_state : (number : ℕ) → logs → waiting_by (waits_for_store mode) number pass.client.state ≡ state_after (waits_for_store kept request) number
  write_state number given = ap (waiting_by (waits_for_store mode) number) (asked given).asks ∙ ap (λ (m : Mode). state_after (waits_for_store m request) number) (log given).mode_is

  module _ (mid : PassState) (before after : ℕ) (result : Served) (client : IsClientServed mode request before after result pass.client mid.client) (shown : next.client ≡ mid.client) where
    at : (other : Served) → result ≡ other → IsClientServed mode request before after other pass.client mid.client
    at other is = subst (λ (r : Served). IsClientServed mode request before after r pass.client mid.client) is client

    answered : (answer : Answer) (waits : Bool) → nat_lt before after ≡ waits → result ≡ ready_for request.head.cookie answer
        → MatchBool waits (mid.client ≡ accepting mode after pass.client) (IsClientAnswered mode after answer pass.client mid.client)
    answered answer waits less is =
        subst (λ (b : Bool). MatchBool b (mid.client ≡ accepting mode after pass.client) (IsClientAnswered mode after answer pass.client mid.client)) less (at (ready_for request.head.cookie answer) is)

    waiting : (number : ℕ) (flush : Bool) → is_flush request ≡ flush → result ≡ served.Wait number → MatchBool flush (mid.client ≡ flushing mode number pass.client) (mid.client ≡ accepting mode number pass.client)
    waiting number flush is_one is =
        subst (λ (b : Bool). MatchBool b (mid.client ≡ flushing mode number pass.client) (mid.client ≡ accepting mode number pass.client)) is_one (at (served.Wait number) is)

    flushed : (waits : Bool) → flush_waits kept ≡ waits → is_flush request ≡ true → after ≡ before → result ≡ served_after waits request.head.cookie before → For result
    flushed true waits flush same is =
        by_waits true before request.head.cookie result _ is (shown ∙ waiting before true flush is) (λ given. flush_state before given ∙ ap (λ (b : Bool). state_after b before) waits)
    flushed false waits flush same is =
        by_waits false after request.head.cookie result _ is (shown ∙ answered Done false (ap (nat_lt before) same ∙ no_less before) is) (λ given. flush_state after given ∙ ap (λ (b : Bool). state_after b after) waits)

    numbered : (waits : Bool) → waits_for_store kept request ≡ waits → is_flush request ≡ false → after ≡ before + 1 → result ≡ served_after waits request.head.cookie (before + 1) → For result
    numbered true waits other grown is =
        by_waits true (before + 1) request.head.cookie result _ is (shown ∙ waiting (before + 1) false other is) (λ given. write_state (before + 1) given ∙ ap (λ (b : Bool). state_after b (before + 1)) waits)
    numbered false waits other grown is =
        by_waits false after request.head.cookie result _ is (shown ∙ answered Done true (next_more before after grown) is) (λ given. write_state after given ∙ ap (λ (b : Bool). state_after b after) waits)

    pub client_for : ComesTo request kept before after result → FitsServed geometry flags request result → Tells result → For result
    client_for (inl (answer, undone, same, is)) fits tells =
        quiet_for request.head.cookie answer result undone (shown ∙ client_left mode after answer pass.client mid.client undone (answered answer false (ap (nat_lt before) same ∙ no_less before) is)) is fits tells
    client_for (inr (inl (flush, same, is))) fits tells = flushed (flush_waits kept) refl flush same is
    client_for (inr (inr (inl (other, grown, is)))) fits tells = numbered (waits_for_store kept request) refl other grown is
    client_for (inr (inr (inr none))) fits tells = subst For (sym none) tt

  -- a READ that was served with bytes read before
  pub over_client_for : (span : Span) (bytes : List ℕ) (old new : OrderState) (result : Served) → next.client ≡ pass.client → IsReadOverServed request.head span bytes old new result
      → FitsServed geometry flags request result → Tells result → For result
  over_client_for span bytes old new result same (inl none) fits tells = quiet_for request.head.cookie _ result (refused_undone NoMemory) same none.1 fits tells
  over_client_for span bytes old new result same (inr read) fits tells = quiet_for request.head.cookie _ result (shown_undone read.image request.head) same read.answer fits tells

  -- a request of which nothing was done
  pub unserved_client : (result : Served) → IsUnserved geometry flags request result → next ≡ pass → For result
  unserved_client result is same =
      quiet_for request.head.cookie (Refused is.errno) result (refused_undone is.errno) (ap (λ (p : PassState). p.client) same) is.answer (unserved_fits geometry flags request result is)
      (anyway opening first vouches sure (unserved_tells geometry flags request result is (apply_all next.history first) request.head))

-- a client that has waited may be answered so
pub waited_may : (trusted : Type 0) (image : Image) (number : ℕ) (old new : PassState) (answer : Answer) → old.client.state ≡ Waiting number → IsWaitedFor number old new answer
    → MayAnswer trusted image new.durable new.history new.client.state answer
waited_may trusted image number old new answer at waited =
    subst (λ (s : Connection). MayAnswer trusted image new.durable new.history s answer) (sym (ap (λ (c : Client). c.state) waited.client ∙ at)) (by waited.answered)
  where
    by : (answer ≡ Done) ⊎ (answer ≡ Refused Io) → MayAnswer trusted image new.durable new.history (Waiting number) answer
    by (inl done) = inl (done, waited.done done)
    by (inr io) = inr io
