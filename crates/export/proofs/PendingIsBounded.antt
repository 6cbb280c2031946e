-- how many bytes are pending once a request was served
use Rattle.std.proofs.Common.{◌≡◌, ◌≢◌, ◌<◌, ◌≤◌, ◌+◌, ◌-◌, ◌*◌, ◌/◌, ◌==◌, ◌&&◌, not, inl, inr, ℕ, Bool, false, true, nat_lt, if◌then◌else◌, List, [], ◌∷◌, ◌++◌, length, length-append, Result, Ok, Err, ap, refl, arith}
use Rattle.std.specs.List.{sum}
use Rattle.std.proofs.lemmas.Grind.{common_steps}
use Rattle.device_image.specs.Keeper.{KeeperState}
use Rattle.disk_model.specs.Disk.{State}
use Rattle.image_model.specs.Bodies.{body_bytes}
use Rattle.image_model.specs.Change.{Cleared, change_of}
use Rattle.image_model.specs.Edit.{BytesPut, BytesTrimmed, BytesZeroed, apply_edit, becomes, blocks_met, bytes_of, cleared_within, end_spanned, first_spanned, is_partial_data}
use Rattle.image_model.specs.Image.{Image, last_of}
use Rattle.image_model.specs.declared.command.Kind.{Kind}
use Rattle.image_model.specs.declared.command.Kind.TheVariants.{Hole}
use Rattle.image_model.specs.declared.geometry.Geometry.{Geometry}
use Rattle.image_model.specs.laws.Becoming.{length-bytes_of}
use Rattle.nbd_wire.specs.Request.{Message}
use Rattle.nbd_wire.specs.declared.error.Errno.{Errno}
use Rattle.order_book.specs.Order.{OrderState}
use Rattle.order_book.specs.Shown.{ShowsImage}
use Rattle.request_core.specs.Outcomes.{IsPassed, IsServedBy, IsServedHere}
use Rattle.order_book.specs.Edits.{IsKnownBy}
use Rattle.request_core.specs.Serving.{IsWriteServed}
use Rattle.request_core.specs.declared.serving.Served.{Served}
use Rattle.export_model.specs.Log.{cleared_as, edit_asked, is_flush, is_write}
use Rattle.export_model.specs.declared.action.Action.{Action}
use Rattle.export_model.specs.declared.action.Action.TheVariants.{End, Serve}
use Rattle.export_model.specs.declared.step.Mode.{Mode}

sum_push : (bodies : List ℕ) (body : ℕ) → sum (bodies ++ body ∷ []) ≡ sum bodies + body
sum_push bodies body = grind (arith, common_steps)

put_blocks : (offset count : ℕ) → 4096 * blocks_met offset count ≤ count + 8190
put_blocks offset count = omega arith

-- the blocks that a put touches, of which two have other bytes too
most_put : (offset : ℕ) (bytes : List ℕ) (image : Image) → body_bytes (becomes (BytesPut offset bytes) image) ≤ 8206 + length bytes
most_put offset bytes image =
    let all = length-bytes_of (apply_edit (BytesPut offset bytes) image) (offset / 4096) (blocks_met offset (length bytes)) in
    let few = put_blocks offset (length bytes) in
    omega (arith, all, few)

-- two edges at most
most_cleared : (first blocks : ℕ) (kind : Kind) (head tail : Bool) (one other : List ℕ) → length one ≡ 4096 → length other ≡ 4096
    → body_bytes (cleared_within first blocks kind head tail one other) ≤ 8206
most_cleared first blocks kind true true one other long also = omega (arith, length-append one other, long, also)
most_cleared first blocks kind true false one other long also = omega (arith, long)
most_cleared first blocks kind false true one other long also = omega (arith, also)
most_cleared first blocks kind false false one other long also = omega arith

most_zeroed : (offset count : ℕ) (kind : Kind) (image : Image) → body_bytes (becomes (BytesZeroed offset count kind) image) ≤ 8206
most_zeroed offset count kind image =
    let first = offset / 4096 in
    let blocks = blocks_met offset count in
    let last = last_of first blocks in
    let after = apply_edit (BytesZeroed offset count kind) image in
    most_cleared first blocks kind (is_partial_data offset count first (image.kind first)) (not (last == first) && is_partial_data offset count last (image.kind last)) (bytes_of after first 1) (bytes_of after last 1)
    (length-bytes_of after first 1) (length-bytes_of after last 1)

most_trimmed : (offset count : ℕ) (image : Image) → body_bytes (becomes (BytesTrimmed offset count) image) ≤ 8206
most_trimmed offset count image = by (nat_lt (first_spanned offset) (end_spanned offset count))
  where
    by : (some : Bool) → body_bytes (if some then Cleared (first_spanned offset) (end_spanned offset count - first_spanned offset) Hole else Cleared (offset / 4096) 0 Hole) ≤ 8206
    by true = omega arith
    by false = omega arith

-- what a request may add to what is pending
pub most_asked : (request : Message) (image : Image) → body_bytes (becomes (edit_asked request) image) ≤ 8206 + length request.bytes
most_asked request image = by (request.head.kind == 1) (request.head.kind == 6)
  where
    by : (puts zeroes : Bool) → body_bytes (becomes (if puts then BytesPut request.head.offset request.bytes
        else (if zeroes then BytesZeroed request.head.offset request.head.length (cleared_as request.head)
        else BytesTrimmed request.head.offset request.head.length)) image) ≤ 8206 + length request.bytes
    by true zeroes = most_put request.head.offset request.bytes image
    by false true = let most = most_zeroed request.head.offset request.head.length (cleared_as request.head) image in omega (arith, most)
    by false false = let most = most_trimmed request.head.offset request.head.length image in omega (arith, most)

module _ (request : Message) (geometry : Geometry) (kept : Mode) (old new : OrderState) (result : Served) (most : ℕ)
    (free : is_write request ≡ true → old.stopped ≡ false → sum old.bodies + 8206 + length request.bytes ≤ most) where
  -- at most this many bytes are pending once a command was accepted
  abbrev Bounded : Type 0
  Bounded = old.mark < new.mark → sum new.bodies ≤ most

  same_order : new.mark ≡ old.mark → Bounded
  same_order same more = absurd (omega (arith, same, more))

  written : (own : Image → Type 0) → is_write request ≡ true → old.stopped ≡ false → IsWriteServed request geometry kept own old new result → Bounded
  written own write works (inl full) = same_order (ap (λ (o : OrderState). o.mark) full.1)
  written own write works (inr (left, found, inl room)) = same_order (ap (λ (o : OrderState). o.mark) room.1)
  written own write works (inr (left, found, inr (inl none))) = same_order (ap (λ (o : OrderState). o.mark) none.1)
  written own write works (inr (left, found, inr (inr (taken, done)))) = λ more.
      let bodies = ap (λ (o : OrderState). sum o.bodies) taken.more.2 in
      let body = ap body_bytes taken.more.1 in
      let pushed = sum_push old.bodies (body_bytes (change_of taken.more.0)) in
      let few = most_asked request found in
      let room = free write works in
      omega (arith, bodies, body, pushed, few, room)

  passed : (is_flush request ≡ false → request.head.kind ≢ 0 → request.head.kind ≢ 7 → is_write request ≡ true) → IsPassed request geometry kept old new result → Bounded
  passed writes (inl halted) = same_order (ap (λ (o : OrderState). o.mark) halted.1)
  passed writes (inr (inl flush)) = same_order (ap (λ (o : OrderState). o.mark) flush.2)
  passed writes (inr (inr (inl status))) = same_order (ap (λ (o : OrderState). o.mark) status.2)
  passed writes (inr (inr (inr write))) = written (λ given. ShowsImage given old.cache) (writes write.1 write.2 write.3) write.0 write.4

  pub here_bounded : (given : Result Action Errno) → (given ≡ Ok Serve → request.head.kind ≢ 0 → request.head.kind ≢ 7 → is_flush request ≡ false → is_write request ≡ true)
      → IsServedHere given request geometry kept old new result → Bounded
  here_bounded (Ok End) writes by = absurd by
  here_bounded (Ok Serve) writes (inl by) = passed (λ other reads tells. writes refl reads tells other) by
  here_bounded (Ok Serve) writes (inr read) = same_order (ap (λ (o : OrderState). o.mark) read.2)
  here_bounded (Err errno) writes by = same_order (ap (λ (o : OrderState). o.mark) by.0)

  pub with_bounded : {D : Type 0} (state : D → State) (faults : D → ℕ) (honest : D → Type 0) (keeper next : KeeperState D) (given : Result Action Errno)
      → (given ≡ Ok Serve → request.head.kind ≢ 0 → request.head.kind ≢ 7 → is_flush request ≡ false → is_write request ≡ true)
      → IsServedBy state faults honest given request geometry kept old new keeper next result → Bounded
  with_bounded state faults honest keeper next (Ok End) writes by = absurd by
  with_bounded state faults honest keeper next (Ok Serve) writes (inl by) = passed (λ other reads tells. writes refl reads tells other) by.1
  with_bounded state faults honest keeper next (Ok Serve) writes (inr (inl (works, kind, inl none))) = same_order (ap (λ (o : OrderState). o.mark) none.0)
  with_bounded state faults honest keeper next (Ok Serve) writes (inr (inl (works, kind, inr (inl read)))) = same_order (ap (λ (o : OrderState). o.mark) read.order)
  with_bounded state faults honest keeper next (Ok Serve) writes (inr (inl (works, kind, inr (inr unread)))) = same_order (ap (λ (o : OrderState). o.mark) unread.order)
  with_bounded state faults honest keeper next (Ok Serve) writes (inr (inr (works, write, inl edit))) = written (IsKnownBy state honest keeper old) write works edit.served
  with_bounded state faults honest keeper next (Ok Serve) writes (inr (inr (works, write, inr edit))) = same_order (ap (λ (o : OrderState). o.mark) edit.unread.order)
  with_bounded state faults honest keeper next (Err errno) writes by = same_order (ap (λ (o : OrderState). o.mark) by.1)
