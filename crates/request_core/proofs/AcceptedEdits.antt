-- what is known of an edit that an order took, or had room for
use Rattle.std.specs.Prelude.{MatchBool}
use Rattle.std.proofs.Common.{◌≡◌, ℕ, ◌+◌, ◌<◌, ◌≤◌, ◌==◌, Bool, true, false, not, nat_lt, if◌then◌else◌, Option, Some, None, List, [], ◌∷◌, ◌++◌, length, sym, ◌∙◌, ap, subst, refl, arith}
use mathlib.Core.List.{IsPrefix}
use Rattle.std.proofs.lemmas.Bool.{and_parts, eqb-false, lt-ltb}
use Rattle.alloc_map.specs.Codes.{state_at}
use Rattle.device_image.specs.Keeper.{KeeperState}
use Rattle.disk_model.specs.Disk.{State}
use Rattle.image_model.specs.Change.{Change, IsChange}
use Rattle.image_model.specs.Edit.{ByteEdit, BytesPut, BytesTrimmed, BytesZeroed, IsEdit, becomes, count_of, meets, spans}
use Rattle.image_model.specs.Image.{Image}
use Rattle.image_model.specs.declared.command.Kind.TheVariants.{Data}
use Rattle.image_model.specs.declared.geometry.Geometry.{Geometry}
use Rattle.image_model.specs.laws.Becoming.{becomes_change}
use Rattle.marks.specs.Known.{Numbered, PassState, known}
use Rattle.nbd_wire.specs.Request.{Message}
use Rattle.nbd_wire.specs.declared.message.Answer.TheVariants.{Done}
use Rattle.order_book.specs.Edits.{IsMissing, NeedsDevice, TakesEdit, image_in, is_in_part}
use Rattle.order_book.specs.Order.{OrderState, has_room_for, refusal_for}
use Rattle.order_book.specs.Shown.{ShowsImage}
use Rattle.order_book.specs.declared.fault.OrderFault.{OrderFault}
use Rattle.order_book.specs.declared.fault.OrderFault.TheVariants as fault
use Rattle.order_book.specs.declared.fault.OrderFault.TheVariants.{NumbersFull, NoRoom, Stopped}
use Rattle.order_book.specs.laws.Edited.{room_shown}
use Rattle.request_core.specs.Outcomes.{IsEditRefused}
use Rattle.request_core.specs.Reading.{IsUnread}
use Rattle.request_core.specs.Serving.{IsAcceptedFor, IsAnsweredFor, IsPassServed, IsRoom, IsShownTo, IsTaken, served_after}
use Rattle.request_core.specs.declared.serving.Served.{Served}
use Rattle.request_core.proofs.OldBytesTaken.{takes_there}
use Rattle.export_model.specs.Log.{edit_asked, is_flush, waits_for_store}
use Rattle.export_model.specs.Serve.{covers_data_in_part, takes_old_bytes}
use Rattle.export_model.specs.declared.step.Mode.{Mode}

-- what an order took over two images is one change
takes_same : (edit : ByteEdit) (one other : Image) (old new : OrderState) (before after : PassState)
    → TakesEdit edit one old new before after → TakesEdit edit other old new before after → becomes edit one ≡ becomes edit other
takes_same edit one other old new before after first second = ap (λ (p : PassState). own_change p.own.last) (sym first.pass ∙ second.pass)
  where
    own_change : Option Numbered → Change
    own_change None = becomes edit one
    own_change (Some own) = own.change

-- how many blocks the image has tells nothing of what an edit becomes
same_sized : (edit : ByteEdit) (image : Image) (blocks : ℕ) → becomes edit (record image { blocks = blocks }) ≡ becomes edit image
same_sized (BytesPut offset bytes) image blocks = refl
same_sized (BytesZeroed offset count kind) image blocks = refl
same_sized (BytesTrimmed offset count) image blocks = refl

-- An edit that was taken over an image that memory shows, and over each one that is the order's own.
pub taken_over : (request : Message) (geometry : Geometry) (own : Image → Type 0) (old new : OrderState) (before after : PassState) (image : Image)
    → ShowsImage image old.cache → IsEdit geometry.blocks (edit_asked request) → has_room_for old (becomes (edit_asked request) image) ≡ true
    → TakesEdit (edit_asked request) image old new before after → ((given : Image) → own given → TakesEdit (edit_asked request) given old new before after)
    → IsTaken request geometry own old new image
taken_over request geometry own old new before after image seen takes room taken over = record {
  seen = seen;
  takes = subst (IsChange geometry.blocks) (same_sized (edit_asked request) image geometry.blocks)
      (becomes_change (edit_asked request) (record image { blocks = geometry.blocks }) (omega arith) takes);
  same = λ given is. takes_same (edit_asked request) image given old new before after taken (over given is);
  room = room;
  more = (taken.command, taken.is, taken.taken);
  shows = taken.shown;
}

-- the room is that over the image in memory
pub room_over : (request : Message) (own : Image → Type 0) (old : OrderState) (room : Bool) → ((image : Image) → own image → ShowsImage image old.cache)
    → has_room_for old (becomes (edit_asked request) (image_in old.cache)) ≡ room → IsRoom request own old (image_in old.cache) room
room_over request own old room shows is = (is, λ given is_own. sym (room_shown old (edit_asked request) given (shows given is_own)) ∙ is)

-- nothing refuses an edit for which the device is needed
pub not_refused : (order : OrderState) (change : Change) → refusal_for order change ≡ None → order.mark < 18446744073709551616
    → (order.mark < 18446744073709551615) × (has_room_for order change ≡ true)
not_refused order change is numbered =
    let parts = by order.stopped (order.mark == 18446744073709551615) (has_room_for order change) is in
    let other = eqb-false order.mark 18446744073709551615 parts.0 in (omega (arith, other, numbered), parts.1)
  where
    by : (stopped full room : Bool) → (if stopped then Some Stopped else (if full then Some NumbersFull else (if room then None else Some NoRoom))) ≡ (let none : Option OrderFault = None in none)
        → (full ≡ false) × (room ≡ true)
    by true full room is = cc
    by false true room is = cc
    by false false true is = (refl, refl)
    by false false false is = cc

-- a block of which bytes are covered in part, and which is data
in_part : (offset count block : ℕ) (image : Image) → 1 ≤ count → is_in_part offset count block ≡ true → image.kind block ≡ Data → covers_data_in_part offset count image ≡ true
in_part offset count block image some part data_is =
    let parts = and_parts (meets offset count block) (not (spans offset count block)) part in
    takes_there offset count block image some parts.0 (unspanned (spans offset count block) parts.1) data_is
  where
    unspanned : (b : Bool) → not b ≡ true → b ≡ false
    unspanned false is = refl
    unspanned true is = sym is

-- an edit that lacks old bytes takes old bytes, over each image that has the order's states
pub takes_olds : (edit : ByteEdit) (order : OrderState) (image : Image) (block : ℕ) → 1 ≤ count_of edit → IsMissing edit order.cache block
    → ((other : ℕ) → state_at order.cache.states other ≡ image.kind other) → takes_old_bytes edit image ≡ true
takes_olds (BytesPut offset bytes) order image block some missing kinds = in_part offset (length bytes) block image some missing.0 (sym (kinds block) ∙ missing.1)
takes_olds (BytesZeroed offset count kind) order image block some missing kinds = in_part offset count block image some missing.0 (sym (kinds block) ∙ missing.1)
takes_olds (BytesTrimmed offset count) order image block some missing kinds = absurd (no (sym missing.0))
  where
    no : true ≡ false → ⊥
    no is = cc

-- a call of the device failed for old bytes of an edit for which there is a number and room
pub edit_refused : {D : Type 0} (state : D → State) (faults : D → ℕ) (honest : D → Type 0) (request : Message) (geometry : Geometry) (old new : OrderState) (keeper next : KeeperState D) (result : Served)
    → IsEdit geometry.blocks (edit_asked request) → NeedsDevice old (edit_asked request) → old.mark < 18446744073709551616
    → IsUnread state faults honest request.head old new keeper next result → IsEditRefused state faults honest request old new keeper next result
edit_refused state faults honest request geometry old new keeper next result takes needs numbered unread =
    let left = not_refused old (becomes (edit_asked request) (image_in old.cache)) needs.accepted numbered in
    let (block, missing) = needs.lacks in
    record {
      left = left.0;
      image = image_in old.cache;
      room = left.1;
      takes = takes_olds (edit_asked request) old (image_in old.cache) block takes.some missing (λ other. refl);
      own = λ given shows. (sym (room_shown old (edit_asked request) given shows) ∙ left.1, takes_olds (edit_asked request) old given block takes.some missing shows.states);
      unread = unread;
    }

-- what a pass knows for which an edit was taken
module _ (opening : ℕ) (request : Message) (kept : Mode) (old new : OrderState) (image : Image) (before after : PassState) (write : is_flush request ≡ false) (above : known before < old.mark + 1)
    (knew : IsPrefix before.history old.history) (place : old.mark ≡ opening + length old.history) (taken : TakesEdit (edit_asked request) image old new before after) where
  accepted_for : IsAcceptedFor opening request (old.mark + 1) before after
  accepted_for =
      let history : new.history ≡ old.history ++ becomes (edit_asked request) image ∷ [] =
      ap (λ (o : OrderState). o.history) taken.taken ∙ ap (λ (change : Change). old.history ++ change ∷ []) taken.is in record {
        above = above;
        image = image;
        earlier = old.history;
        knew = knew;
        place = omega (arith, place);
        pass = taken.pass ∙ ap (λ (h : List Change). record before { history = h; accepted = old.mark + 1; own = record { count = before.own.count + 1; last = Some (record { number = old.mark + 1; change = becomes (edit_asked request) image }) }; client = after.client }) history;
      }

  by_waits : (waits : Bool) → IsPassServed opening request old.mark new.mark (served_after waits request.head.cookie (old.mark + 1)) before after
  by_waits true = subst (λ (b : Bool). MatchBool b (IsShownTo opening (old.mark + 1) before after) (IsAcceptedFor opening request (old.mark + 1) before after)) (sym write) accepted_for
  by_waits false =
      let mark : new.mark ≡ old.mark + 1 = ap (λ (o : OrderState). o.mark) taken.taken in
      let more : nat_lt old.mark new.mark ≡ true = ap (nat_lt old.mark) mark ∙ lt-ltb old.mark (old.mark + 1) (omega arith) in
      subst (λ (b : Bool). MatchBool b (IsAcceptedFor opening request new.mark before after) (IsAnsweredFor opening new.mark Done before after)) (sym more)
      (subst (λ (n : ℕ). IsAcceptedFor opening request n before after) (sym mark) accepted_for)

  pub taken_passes : (result : Served) → result ≡ served_after (waits_for_store kept request) request.head.cookie (old.mark + 1) → IsPassServed opening request old.mark new.mark result before after
  taken_passes result is = subst (λ (r : Served). IsPassServed opening request old.mark new.mark r before after) (sym is) (by_waits (waits_for_store kept request))

-- want of memory is no other refusal
pub faults_apart : (fault.NoMemory ≡ fault.NumbersFull → ⊥) × (fault.NoMemory ≡ fault.NoRoom → ⊥) × (fault.NoMemory ≡ fault.DeviceFault → ⊥)
faults_apart = (λ is. cc, λ is. cc, λ is. cc)
