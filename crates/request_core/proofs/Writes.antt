-- the edit that a write request asks for, and where it gets its place
use Rattle.std.proofs.Common.{◌≡◌, ◌⊎◌, inl, inr, ℕ, ◌<◌, ◌==◌, ◌&&◌, ◌↔◌, Bool, true, false, nat_le, if◌then◌else◌, [], length, bit_and, sym, ◌∙◌, ap, subst, refl, arith}
use Rattle.std.proofs.lemmas.Bool.{cases_eq, cases_Bool, eq-eqb, le-leb, ne_eqb}
use Rattle.image_model.specs.declared.geometry.Geometry.{Geometry}
use Rattle.image_model.specs.declared.command.Kind.TheVariants.{Zero, Hole}
use Rattle.image_model.specs.Change.{Change, IsCleared}
use Rattle.image_model.specs.Edit.{BytesPut, BytesTrimmed, BytesZeroed, IsEdit}
use Rattle.nbd_wire.specs.Request.{Message, data_len, handed_len, payload_limit}
use Rattle.nbd_wire.specs.declared.head.RequestHead.{RequestHead}
use Rattle.order_book.specs.Order.{OrderState, has_room_for}
use Rattle.export_model.specs.Log.{cleared_as, edit_asked, waits_for_store}
use Rattle.export_model.specs.Verdict.{IsServedRange}
use Rattle.export_model.specs.declared.step.Mode.{Mode}
use Rattle.export_model.specs.declared.step.Mode.TheVariants.{Writeback, Writethrough, Ordered}

-- where neither numbers nor room are wanting
pub some_left : {F N : Type 0} (order : OrderState) (given : Change) → (F ↔ ((order.stopped ≡ false) × (order.mark ≡ 18446744073709551615)))
    → (N ↔ ((order.stopped ≡ false) × (order.mark < 18446744073709551615) × (has_room_for order given ≡ false))) → (F → ⊥) → (N → ⊥)
    → order.stopped ≡ false → order.mark < 18446744073709551616 → (order.mark < 18446744073709551615) × (has_room_for order given ≡ true)
some_left order given full none no_full no_none works below = (left, by_room (cases_Bool (has_room_for order given)))
  where
    left : order.mark < 18446744073709551615
    left = by_mark (cases_eq order.mark 18446744073709551615)
      where
        by_mark : (order.mark ≡ 18446744073709551615) ⊎ (order.mark ≡ 18446744073709551615 → ⊥) → order.mark < 18446744073709551615
        by_mark (inl is) = absurd (no_full (full.1 (works, is)))
        by_mark (inr other) = omega (arith, other, below)

    by_room : (has_room_for order given ≡ true) ⊎ (has_room_for order given ≡ false) → has_room_for order given ≡ true
    by_room (inl room) = room
    by_room (inr is) = absurd (no_none (none.1 (works, left, is)))

-- whether an answer waits doesn't depend on the data
pub waits_same : (mode : Mode) (head : RequestHead) (request : Message) → head ≡ request.head
    → waits_for_store mode (record { head = head; bytes = [] }) ≡ waits_for_store mode request
waits_same Writethrough head request is = refl
waits_same Ordered head request is = refl
waits_same Writeback head request is = ap (λ (h : RequestHead). bit_and h.flags 1 == 1) is

-- the edit of each write request, and that an image takes it where the request passes judgement
pub put_edit : (request : Message) → request.head.kind ≡ 1 → edit_asked request ≡ BytesPut request.head.offset request.bytes
put_edit request is = ap (λ (b : Bool). if b then BytesPut request.head.offset request.bytes
    else (if request.head.kind == 6 then BytesZeroed request.head.offset request.head.length (cleared_as request.head) else BytesTrimmed request.head.offset request.head.length)) (eq-eqb request.head.kind 1 is)

pub zeroes_edit : (request : Message) → request.head.kind ≡ 6 → edit_asked request ≡ BytesZeroed request.head.offset request.head.length (cleared_as request.head)
zeroes_edit request is =
    ap (λ (b : Bool). if b then BytesPut request.head.offset request.bytes
    else (if request.head.kind == 6 then BytesZeroed request.head.offset request.head.length (cleared_as request.head) else BytesTrimmed request.head.offset request.head.length))
    (ne_eqb request.head.kind 1 (λ one. omega (arith, one, is)))
    ∙ ap (λ (b : Bool). if b then BytesZeroed request.head.offset request.head.length (cleared_as request.head) else BytesTrimmed request.head.offset request.head.length) (eq-eqb request.head.kind 6 is)

pub trim_edit : (request : Message) → (request.head.kind ≡ 1 → ⊥) → (request.head.kind ≡ 6 → ⊥) → edit_asked request ≡ BytesTrimmed request.head.offset request.head.length
trim_edit request no_put no_zeroes =
    ap (λ (b : Bool). if b then BytesPut request.head.offset request.bytes
    else (if request.head.kind == 6 then BytesZeroed request.head.offset request.head.length (cleared_as request.head) else BytesTrimmed request.head.offset request.head.length))
    (ne_eqb request.head.kind 1 no_put)
    ∙ ap (λ (b : Bool). if b then BytesZeroed request.head.offset request.head.length (cleared_as request.head) else BytesTrimmed request.head.offset request.head.length) (ne_eqb request.head.kind 6 no_zeroes)

cleared_kind : (head : RequestHead) → IsCleared (cleared_as head)
cleared_kind head = by_test ((head.kind == 6) && (bit_and head.flags 2 == 2))
  where
    by_test : (test : Bool) → IsCleared (if test then Zero else Hole)
    by_test true = tt
    by_test false = tt

pub put_takes : (request : Message) (geometry : Geometry) → request.head.kind ≡ 1 → IsServedRange request.head geometry → length request.bytes ≡ request.head.length
    → IsEdit geometry.blocks (edit_asked request)
put_takes request geometry kind served whole =
    let some = served.some in let most = served.most_written kind in let inside = served.inside in
    subst (IsEdit geometry.blocks) (sym (put_edit request kind)) (record { some = omega (arith, some, whole); inside = omega (arith, inside, whole); kind = omega (arith, most, whole) })

pub clear_takes : (request : Message) (geometry : Geometry) → (request.head.kind ≡ 1 → ⊥) → IsServedRange request.head geometry → request.head.length < 4294967296
    → IsEdit geometry.blocks (edit_asked request)
clear_takes request geometry no_put served few = by_kind (cases_eq request.head.kind 6)
  where
    by_kind : (request.head.kind ≡ 6) ⊎ (request.head.kind ≡ 6 → ⊥) → IsEdit geometry.blocks (edit_asked request)
    by_kind (inl is) = subst (IsEdit geometry.blocks) (sym (zeroes_edit request is)) (record { some = served.some; inside = served.inside; kind = (few, cleared_kind request.head) })
    by_kind (inr other) = subst (IsEdit geometry.blocks) (sym (trim_edit request no_put other)) (record { some = served.some; inside = served.inside; kind = few })

-- a write request asks for an edit that the image takes
pub edit_takes : (request : Message) (geometry : Geometry) → IsServedRange request.head geometry → length request.bytes ≡ handed_len request.head → request.head.length < 4294967296
    → IsEdit geometry.blocks (edit_asked request)
edit_takes request geometry served handed few = by_kind (cases_eq request.head.kind 1)
  where
    whole : request.head.kind ≡ 1 → length request.bytes ≡ request.head.length
    whole is =
        let data_is : data_len request.head ≡ request.head.length = ap (λ (b : Bool). if b then request.head.length else 0) (eq-eqb request.head.kind 1 is) in
        handed ∙ ap (λ (n : ℕ). if nat_le n payload_limit then n else 0) data_is
        ∙ ap (λ (b : Bool). if b then request.head.length else 0) (le-leb request.head.length payload_limit (served.most_written is))

    by_kind : (request.head.kind ≡ 1) ⊎ (request.head.kind ≡ 1 → ⊥) → IsEdit geometry.blocks (edit_asked request)
    by_kind (inl is) = put_takes request geometry is served (whole is)
    by_kind (inr other) = clear_takes request geometry other served few
