-- what serving leaves a pass with is what an answer promises
use Rattle.std.specs.Prelude.{MatchBool}
use Rattle.std.proofs.Common.{◌≡◌, ◌≢◌, ◌⊎◌, ◌∙◌, ◌<◌, ◌≤◌, ◌+◌, ◌==◌, inl, inr, ℕ, Bool, false, true, nat_lt, if◌then◌else◌, List, [], ◌∷◌, ◌++◌, length, Result, Ok, Err, ap, refl, sym, subst, arith}
use Rattle.std.proofs.lemmas.Bool.{true≢false}
use Rattle.std.proofs.lemmas.Bool.Decides.{nat_tests}
use Rattle.alloc_map.specs.Codes.{state_at}
use Rattle.device_image.specs.Keeper.{KeeperState}
use Rattle.disk_model.specs.Disk.{State}
use Rattle.export_model.specs.Log.{edit_asked}
use Rattle.image_model.specs.Change.{Change}
use Rattle.image_model.specs.Edit.{becomes}
use Rattle.image_model.specs.Image.{Image, apply_all}
use Rattle.marks.specs.laws.Beginnings.{prefix_length, prefix_of_append, prefix_self, prefix_trans}
use mathlib.Core.List.{IsPrefix}
use Rattle.image_model.specs.declared.geometry.Geometry.{Geometry}
use Rattle.marks.specs.Known.{PassState, known}
use Rattle.nbd_wire.specs.Answer.{BytesRead}
use Rattle.nbd_wire.specs.Request.{Message}
use Rattle.nbd_wire.specs.declared.error.Errno.{Errno}
use Rattle.nbd_wire.specs.declared.error.Errno.TheVariants.{Io, NoMemory, NoSpace}
use Rattle.nbd_wire.specs.declared.head.RequestHead.{RequestHead}
use Rattle.nbd_wire.specs.declared.message.Answer.{Answer}
use Rattle.nbd_wire.specs.declared.message.Answer.TheVariants.{Bytes, Done, Refused, States}
use Rattle.nbd_wire.specs.declared.message.Run.{Run}
use Rattle.order_book.specs.Order.{OrderState}
use Rattle.request_core.specs.Outcomes.{IsPassed, IsServedBy, IsServedHere}
use Rattle.order_book.specs.Shown.{ShowsImage}
use Rattle.order_book.specs.declared.span.Span.{Span}
use Rattle.request_core.specs.Reading.{IsReadOverServed, IsStatusServed}
use Rattle.order_book.specs.Edits.{IsKnownBy}
use Rattle.request_core.specs.Serving.{IsAcceptedFor, IsAnsweredFor, IsPassServed, IsShownTo, IsWriteServed, ready_for, served_after}
use Rattle.request_core.specs.declared.serving.Served.{Served}
use Rattle.request_core.specs.declared.serving.Served.TheVariants as served
use Rattle.export_model.specs.Log.{flush_waits, is_flush, is_write, is_write_type, waits_for_store}
use Rattle.export_model.specs.Shown.{shown_by}
use Rattle.export_model.specs.declared.action.Action.{Action}
use Rattle.export_model.specs.declared.action.Action.TheVariants.{End, Serve}
use Rattle.export_model.specs.declared.step.Mode.{Mode}
use Rattle.export.proofs.Lists.{last_same}
use Rattle.export.specs.Submits.{IsAccepted, IsSubmitted}
use Rattle.export.specs.inner.Submits.{IsServedFor, IsWaitedFor}

pub write_flushes_none : (kind : ℕ) → is_write_type kind ≡ true → (kind == 3) ≡ false
write_flushes_none kind write = grind (arith, nat_tests)

pub refused_undone : (errno : Errno) → Refused errno ≢ Done
refused_undone errno is = cc

pub shown_undone : (image : Image) (head : RequestHead) → shown_by image head ≢ Done
shown_undone image head = by (head.kind == 0) _ _
  where
    by : (b : Bool) (read : BytesRead) (runs : List Run) → (if b then Bytes read else States runs) ≢ Done
    by true read runs is = cc
    by false read runs is = cc

-- an answer that isn't Ok leaves the pass
leaves : (opening number : ℕ) (answer : Answer) (pass next : PassState) → answer ≢ Done → IsAnsweredFor opening number answer pass next → next ≡ pass
leaves opening number Done pass next undone is = absurd (undone refl)
leaves opening number (Refused errno) pass next undone is = is
leaves opening number (Bytes read) pass next undone is = is
leaves opening number (States runs) pass next undone is = is

pub no_less : (number : ℕ) → nat_lt number number ≡ false
no_less number = grind (arith, nat_tests)

-- a pass for which a command was accepted knows what it knew before, and the command
known_on : (opening : ℕ) (first : Image) (Sure : Type 0 → Type 0) (request : Message) (number : ℕ) (old new : PassState) → IsAccepted opening first Sure request number old new → IsPrefix old.history new.history
known_on opening first Sure request number old new is =
    let own : List Change = becomes (edit_asked request) is.image ∷ [] in
    prefix_trans old.history (is.earlier ++ own) new.history (prefix_trans old.history is.earlier (is.earlier ++ own) is.knew (prefix_of_append is.earlier own)) is.within

less_next : (number : ℕ) → nat_lt number (number + 1) ≡ true
less_next number = grind (arith, nat_tests)

module _ (opening : ℕ) (first : Image) (Sure : Type 0 → Type 0) (request : Message) (kept : Mode) (pass next : PassState) where
  -- what is answered and isn't Done, of a pass that is as it was
  pub unanswered : (cookie : ℕ) (answer : Answer) (result : Served) → answer ≢ Done → next ≡ pass → result ≡ ready_for cookie answer → IsServedFor opening first Sure request kept pass next result
  unanswered cookie answer result undone left is =
      subst (λ (r : Served). IsServedFor opening first Sure request kept pass next r) (sym is)
      (record { knew = subst (λ (p : PassState). IsPrefix pass.history p.history) (sym left) (prefix_self pass.history); written = λ done. absurd (undone done); ordered = λ done. absurd (undone done); flushed = λ done. absurd (undone done); covered = λ done. absurd (undone done); refused = λ errno is_errno other. subst (λ (p : PassState). p ≡ record pass { history = p.history; accepted = p.accepted; client = p.client }) (sym left) refl; own = inl (ap (λ (p : PassState). p.own) left); lasts = let same = ap (λ (p : PassState). p.durable) left in omega (arith, same) })

-- what a request comes to of a board that opened with this number
module _ (opening : ℕ) (first : Image) (Sure : Type 0 → Type 0) (sure : (P Q : Type 0) → (P → Q) → Sure P → Sure Q) (request : Message) (kept : Mode) (pass next : PassState) where
  -- what is answered without a number leaves the pass as it was
  quiet : (before after cookie : ℕ) (answer : Answer) (result : Served) → answer ≢ Done → after ≡ before → result ≡ ready_for cookie answer
      → IsPassServed opening request before after result pass next → IsServedFor opening first Sure request kept pass next result
  quiet before after cookie answer result undone same is passed =
      let at : IsPassServed opening request before after (ready_for cookie answer) pass next = subst (λ (r : Served). IsPassServed opening request before after r pass next) is passed in
      let none : nat_lt before after ≡ false = ap (nat_lt before) same ∙ no_less before in
      let left : next ≡ pass = leaves opening after answer pass next undone (subst (λ (b : Bool). MatchBool b (IsAcceptedFor opening request after pass next) (IsAnsweredFor opening after answer pass next)) none at) in
      unanswered opening first Sure request kept pass next cookie answer result undone left is

  -- the same where the order is as it was
  as_it_was : (old new : OrderState) (cookie : ℕ) (answer : Answer) (result : Served) → answer ≢ Done → new ≡ old → result ≡ ready_for cookie answer
      → IsPassServed opening request old.mark new.mark result pass next → IsServedFor opening first Sure request kept pass next result
  as_it_was old new cookie answer result undone same = quiet old.mark new.mark cookie answer result undone (ap (λ (o : OrderState). o.mark) same)

  waiting : (before after number : ℕ) (result : Served) → result ≡ served.Wait number → IsPassServed opening request before after result pass next
      → MatchBool (is_flush request) (IsShownTo opening number pass next) (IsAcceptedFor opening request number pass next)
  waiting before after number result is passed = subst (λ (r : Served). IsPassServed opening request before after r pass next) is passed

  -- a FLUSH was shown all of the order, and waits for it or is answered at once
  flush_served : (before after cookie : ℕ) (waits : Bool) (result : Served) → is_flush request ≡ true → flush_waits kept ≡ waits → after ≡ before → result ≡ served_after waits cookie before
      → IsPassServed opening request before after result pass next → IsServedFor opening first Sure request kept pass next result
  flush_served before after cookie false result flush waits same is passed =
      let at : IsPassServed opening request before after (ready_for cookie Done) pass next = subst (λ (r : Served). IsPassServed opening request before after r pass next) is passed in
      let none : nat_lt before after ≡ false = ap (nat_lt before) same ∙ no_less before in
      let shown : IsShownTo opening after pass next = subst (λ (b : Bool). MatchBool b (IsAcceptedFor opening request after pass next) (IsShownTo opening after pass next)) none at in
      subst (λ (r : Served). IsServedFor opening first Sure request kept pass next r) (sym is)
      (record {
        knew = shown.knew;
        written = λ done write. absurd (true≢false (sym flush ∙ write_flushes_none request.head.kind write));
        ordered = λ done flush. let most = shown.known_is in let place = shown.place in omega (arith, most, place);
        flushed = λ done flush stored. absurd (true≢false (sym stored ∙ waits));
        covered = λ done flush stored. absurd (true≢false (sym stored ∙ waits));
        refused = λ errno is_errno. absurd (refused_undone errno (sym is_errno));
        own = inl (ap (λ (p : PassState). p.own) shown.pass);
        lasts = let durable = ap (λ (p : PassState). p.durable) shown.pass in omega (arith, durable);
      })
  flush_served before after cookie true result flush waits same is passed =
      let at = subst (λ (b : Bool). MatchBool b (IsShownTo opening before pass next) (IsAcceptedFor opening request before pass next)) flush (waiting before after before result is passed) in
      subst (λ (r : Served). IsServedFor opening first Sure request kept pass next r) (sym is) (λ same. (at.known_is, ap (λ (p : PassState). p.own) at.pass, at.knew, at.place), λ other. absurd (true≢false (sym flush ∙ other)), let same = ap (λ (p : PassState). p.durable) at.pass in omega (arith, same))

  -- the history that the pass then knows, where a command was accepted over this one
  abbrev IsOver : List Change → Type 0
  IsOver history = Sure (next.history ≡ history ++ becomes (edit_asked request) (apply_all history first) ∷ [])

  own_of : (number : ℕ) (history : List Change) → IsOver history → IsAcceptedFor opening request number pass next → IsAccepted opening first Sure request number pass next
  own_of number history over is =
      let more : List Change = is.earlier ++ becomes (edit_asked request) is.image ∷ [] in record {
        above = is.above;
        image = is.image;
        own = ap (λ (p : PassState). p.own) is.pass;
        earlier = is.earlier;
        knew = is.knew;
        place = is.place;
        within = subst (λ (p : PassState). IsPrefix more p.history) (sym is.pass) (prefix_self more);
        over = sure _ _ (λ same.
            let (before, last) = last_same is.earlier history (becomes (edit_asked request) is.image) (becomes (edit_asked request) (apply_all history first)) (sym (ap (λ (p : PassState). p.history) is.pass) ∙ same) in
            last ∙ ap (λ (h : List Change). becomes (edit_asked request) (apply_all h first)) (sym before)) over;
      }

  -- a command that got the next number
  numbered : (before after cookie : ℕ) (result : Served) (history : List Change) → IsOver history → (waits : Bool) → waits_for_store kept request ≡ waits → is_flush request ≡ false → is_write request ≡ true → after ≡ before + 1
      → result ≡ served_after waits cookie (before + 1) → IsPassServed opening request before after result pass next → IsServedFor opening first Sure request kept pass next result
  numbered before after cookie result history over true waits other write grown is passed =
      let at = subst (λ (b : Bool). MatchBool b (IsShownTo opening (before + 1) pass next) (IsAcceptedFor opening request (before + 1) pass next)) other (waiting before after (before + 1) result is passed) in
      subst (λ (r : Served). IsServedFor opening first Sure request kept pass next r) (sym is) (λ flush. absurd (true≢false (sym flush ∙ other)), λ same. (write, own_of (before + 1) history over at), let same = ap (λ (p : PassState). p.durable) at.pass in omega (arith, same))
  numbered before after cookie result history over false waits other write grown is passed =
      let at : IsPassServed opening request before after (ready_for cookie Done) pass next = subst (λ (r : Served). IsPassServed opening request before after r pass next) is passed in
      let more : nat_lt before after ≡ true = ap (nat_lt before) grown ∙ less_next before in
      let own = subst (λ (b : Bool). MatchBool b (IsAcceptedFor opening request after pass next) (IsAnsweredFor opening after Done pass next)) more at in
      subst (λ (r : Served). IsServedFor opening first Sure request kept pass next r) (sym is)
      (record {
        knew = known_on opening first Sure request after pass next (own_of after history over own);
        written = λ done write. (after, own_of after history over own, λ stored. absurd (true≢false (sym stored ∙ waits)));
        ordered = λ done flush. absurd (true≢false (sym flush ∙ other));
        flushed = λ done flush. absurd (true≢false (sym flush ∙ other));
        covered = λ done flush. absurd (true≢false (sym flush ∙ other));
        refused = λ errno is_errno. absurd (refused_undone errno (sym is_errno));
        own = inr (write, after, own_of after history over own);
        lasts = let same = ap (λ (p : PassState). p.durable) own.pass in omega (arith, same);
      })

  module _ (geometry : Geometry) (old new : OrderState) (result : Served) (passed : IsPassServed opening request old.mark new.mark result pass next) (over : Sure (old.mark < new.mark → next.history ≡ old.history ++ becomes (edit_asked request) (apply_all old.history first) ∷ [])) where
    status_served : new ≡ old → IsStatusServed request.head old result → IsServedFor opening first Sure request kept pass next result
    status_served same (inl none) = as_it_was old new request.head.cookie _ result (refused_undone NoMemory) same none passed
    status_served same (inr shows) =
        let image : Image = record { blocks = 0; byte = λ place. 0; kind = state_at old.cache.states } in
        as_it_was old new request.head.cookie _ result (shown_undone image request.head) same (shows image (λ block. refl)) passed

    write_served : (own : Image → Type 0) → is_flush request ≡ false → is_write request ≡ true → IsWriteServed request geometry kept own old new result → IsServedFor opening first Sure request kept pass next result
    write_served own other write (inl full) = as_it_was old new request.head.cookie _ result (refused_undone NoSpace) full.1 full.2 passed
    write_served own other write (inr (left, image, inl room)) =
        subst (λ (r : Served). IsServedFor opening first Sure request kept pass next r) (sym room.2) (subst (λ (r : Served). IsPassServed opening request old.mark new.mark r pass next) room.2 passed, refl)
    write_served own other write (inr (left, image, inr (inl none))) = as_it_was old new request.head.cookie _ result (refused_undone NoMemory) none.1 none.2 passed
    write_served own other write (inr (left, image, inr (inr (taken, done)))) =
        let more = ap (λ (o : OrderState). o.mark) taken.more.2 in
        numbered old.mark new.mark request.head.cookie result old.history (sure _ _ (λ grown. grown (omega (arith, more))) over) (waits_for_store kept request) refl other write more done passed

    passed_for : (request.head.kind ≢ 0 → request.head.kind ≢ 7 → is_flush request ≡ false → is_write request ≡ true) → IsPassed request geometry kept old new result → IsServedFor opening first Sure request kept pass next result
    passed_for writes (inl stopped) = as_it_was old new request.head.cookie _ result (refused_undone Io) stopped.1 stopped.2 passed
    passed_for writes (inr (inl flush)) = flush_served old.mark new.mark request.head.cookie (flush_waits kept) result flush.1 refl (ap (λ (o : OrderState). o.mark) flush.2) flush.3 passed
    passed_for writes (inr (inr (inl status))) = status_served status.2 status.3
    passed_for writes (inr (inr (inr write))) = write_served (λ image. ShowsImage image old.cache) write.1 (writes write.2 write.3 write.1) write.4

    pub served_for : (given : Result Action Errno) → (given ≡ Ok Serve → request.head.kind ≢ 0 → request.head.kind ≢ 7 → is_flush request ≡ false → is_write request ≡ true)
        → IsServedHere given request geometry kept old new result → IsServedFor opening first Sure request kept pass next result
    served_for (Ok End) writes here = absurd here
    served_for (Ok Serve) writes (inl by) = passed_for (writes refl) by
    served_for (Ok Serve) writes (inr (works, kind, same, inl none)) = as_it_was old new request.head.cookie _ result (refused_undone NoMemory) same none passed
    served_for (Ok Serve) writes (inr (works, kind, same, inr read)) = as_it_was old new request.head.cookie _ result (shown_undone read.image request.head) same read.answer passed
    served_for (Err errno) writes here = as_it_was old new request.head.cookie _ result (refused_undone errno) here.0 here.1 passed

    pub served_with : {D : Type 0} (state : D → State) (faults : D → ℕ) (honest : D → Type 0) (keeper left : KeeperState D) (given : Result Action Errno)
        → (given ≡ Ok Serve → request.head.kind ≢ 0 → request.head.kind ≢ 7 → is_flush request ≡ false → is_write request ≡ true)
        → IsServedBy state faults honest given request geometry kept old new keeper left result → IsServedFor opening first Sure request kept pass next result
    served_with state faults honest keeper left (Ok End) writes by = absurd by
    served_with state faults honest keeper left (Ok Serve) writes (inl by) = passed_for (writes refl) by.1
    served_with state faults honest keeper left (Ok Serve) writes (inr (inl (works, kind, inl none))) = as_it_was old new request.head.cookie _ result (refused_undone NoMemory) none.0 none.2 passed
    served_with state faults honest keeper left (Ok Serve) writes (inr (inl (works, kind, inr (inl read)))) =
        quiet old.mark new.mark request.head.cookie _ result (shown_undone read.image request.head) (ap (λ (o : OrderState). o.mark) read.order) read.answer passed
    served_with state faults honest keeper left (Ok Serve) writes (inr (inl (works, kind, inr (inr unread)))) =
        quiet old.mark new.mark request.head.cookie _ result (refused_undone Io) (ap (λ (o : OrderState). o.mark) unread.order) unread.answer passed
    served_with state faults honest keeper left (Ok Serve) writes (inr (inr (works, write, inl edit))) =
        write_served (IsKnownBy state honest keeper old) (write_flushes_none request.head.kind write) write edit.served
    served_with state faults honest keeper left (Ok Serve) writes (inr (inr (works, write, inr edit))) =
        quiet old.mark new.mark request.head.cookie _ result (refused_undone Io) (ap (λ (o : OrderState). o.mark) edit.unread.order) edit.unread.answer passed
    served_with state faults honest keeper left (Err errno) writes by = as_it_was old new request.head.cookie _ result (refused_undone errno) by.1 by.2 passed

-- a READ that was served with bytes read before
pub over_served_for : (opening : ℕ) (first : Image) (Sure : Type 0 → Type 0) (request : Message) (kept : Mode) (pass : PassState) (span : Span) (bytes : List ℕ) (old new : OrderState) (result : Served)
    → IsReadOverServed request.head span bytes old new result → IsServedFor opening first Sure request kept pass pass result
over_served_for opening first Sure request kept pass span bytes old new result (inl none) = unanswered opening first Sure request kept pass pass request.head.cookie _ result (refused_undone NoMemory) refl none.1
over_served_for opening first Sure request kept pass span bytes old new result (inr read) = unanswered opening first Sure request kept pass pass request.head.cookie _ result (shown_undone read.image request.head) refl read.answer

-- what a request is answered that has waited for its number
module _ (opening : ℕ) (first : Image) (Sure : Type 0 → Type 0) (request : Message) (kept : Mode) (old mid new : PassState) (number : ℕ) (answer : Answer)
    (served : (is_flush request ≡ true → (known old ≤ number) × (mid.own ≡ old.own) × IsPrefix old.history mid.history × (number ≡ opening + length mid.history))
    × (is_flush request ≡ false → (is_write request ≡ true) × IsAccepted opening first Sure request number old mid)
    × (old.durable ≤ mid.durable))
    (waited : IsWaitedFor number mid new answer) where
  accepted : is_flush request ≡ false → IsAccepted opening first Sure request number old new
  accepted other =
      let is = (served.1 other).1 in record {
        above = is.above;
        image = is.image;
        own = waited.own ∙ is.own;
        earlier = is.earlier;
        knew = is.knew;
        place = is.place;
        within = prefix_trans (is.earlier ++ becomes (edit_asked request) is.image ∷ []) mid.history new.history is.within waited.knew;
        over = is.over;
      }

  own_by : (b : Bool) → is_flush request ≡ b → (new.own ≡ old.own) ⊎ ((is_write request ≡ true) × (number : ℕ) × IsAccepted opening first Sure request number old new)
  own_by true is = inl (waited.own ∙ (served.0 is).1)
  own_by false is = inr ((served.1 is).0, number, accepted is)

  knew_by : (b : Bool) → is_flush request ≡ b → IsPrefix old.history new.history
  knew_by true is = prefix_trans old.history mid.history new.history (served.0 is).2 waited.knew
  knew_by false is = known_on opening first Sure request number old new (accepted is)

  only_io : (errno : Errno) → (answer ≡ Done) ⊎ (answer ≡ Refused Io) → answer ≡ Refused errno → errno ≡ Io
  only_io errno (inl done) is = absurd (refused_undone errno (sym is ∙ done))
  only_io errno (inr io) is = same (sym is ∙ io)
    where
      same : Refused errno ≡ Refused Io → errno ≡ Io
      same is = cc

  pub waited_for : IsSubmitted opening first Sure request kept old new answer
  waited_for = record {
    knew = knew_by (is_flush request) refl;
    lasts = let first = served.2 in let rest = waited.lasts in omega (arith, first, rest);
    written = λ done write. (number, accepted (write_flushes_none request.head.kind write), λ stored. waited.done done);
    ordered = λ done flush. let (less, own, knew, place) = served.0 flush in let grown = prefix_length mid.history new.history waited.knew in omega (arith, less, place, grown);
    flushed = λ done flush stored. let less = (served.0 flush).0 in let more = waited.done done in omega arith;
    covered = λ done flush stored. record {
      covered = mid.history;
      knew = (served.0 flush).2;
      within = waited.knew;
      durable = let place = (served.0 flush).3 in let stored = waited.done done in omega arith;
    };
    refused = λ errno is other. absurd (other (only_io errno waited.answered is));
    own = own_by (is_flush request) refl;
  }
