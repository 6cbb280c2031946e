-- What an edit becomes over an image that is in memory in part, and what the order shows then.
use Rattle.std.proofs.Common.{◌≡◌, ℕ, ◌+◌, ◌-◌, ◌*◌, ◌/◌, ◌%◌, ◌≤◌, ◌<◌, ◌&&◌, Bool, true, false, not, nat_eq, nat_le, if◌then◌else◌, List, [], ◌++◌, length, get_or, Option, Some, None, ap, sym, subst, ◌∙◌, refl, arith, length-append}
use Rattle.std.specs.List.{sum}
use Rattle.std.proofs.lemmas.Bool.{and_parts, both_ways}
use Rattle.std.proofs.lemmas.Bool.Decides.{nat_tests}
use Rattle.std.proofs.lemmas.List.{same_lists}
use Rattle.std.proofs.lemmas.List.FromFn.{get_or-map-range_with_len, length-map-range_with_len}
use Rattle.std.specs.FinMap.{len}
use Rattle.image_model.specs.declared.command.Kind.{Kind}
use Rattle.image_model.specs.Change.{Change, Written, Edged}
use Rattle.image_model.specs.declared.command.Edges.TheVariants.{Head, Tail, Both}
use Rattle.image_model.specs.Dirty.{frames_suffice, with_blocks}
use Rattle.image_model.specs.Edit.{ByteEdit, BytesPut, BytesZeroed, BytesTrimmed, apply_edit, becomes, blocks_met, byte_edited, bytes_of, cleared_within, count_of, is_partial_data, spans}
use Rattle.image_model.specs.Image.{Image, apply, is_data, last_of}
use Rattle.image_model.specs.laws.Becoming.{length-bytes_of}
use Rattle.image_model.specs.laws.WholeEdits.{bytes_from, put_parts, back_bytes, front_bytes}
use Rattle.marks.specs.Known.{PassState}
use Rattle.shared_cache.specs.Cache.{CacheState, bytes_seen}
use Rattle.order_book.specs.Cached.{ShowsCommand}
use Rattle.order_book.specs.declared.fault.OrderFault.TheVariants.{NumbersFull, NoRoom, Stopped}
use Rattle.order_book.specs.Edits.{TakesEdit, bytes_or, image_in, image_with, is_in_part, needs_old}
use Rattle.order_book.specs.Order.{OrderState, has_room_for, refusal_for}
use Rattle.order_book.specs.Shown.{ShowsImage}

-- the image that is in memory is shown, whatever stands in for blocks that are missing
module _ (cache : CacheState) (first : ℕ) (head tail : List ℕ) where
  pub byte-image_with : (block k : ℕ) → k < 4096
      → (image_with cache first head tail).byte (4096 * block + k) ≡ get_or (bytes_or (bytes_seen cache block) (if nat_eq block first then head else tail)) k 0
  byte-image_with block k below =
      let same_block : (4096 * block + k) / 4096 ≡ block = omega (arith, below) in
      let same_place : (4096 * block + k) % 4096 ≡ k = omega (arith, below) in
      ap (λ (b : ℕ). get_or (bytes_or (bytes_seen cache b) (if nat_eq b first then head else tail)) ((4096 * block + k) % 4096) 0) same_block
      ∙ ap (λ (n : ℕ). get_or (bytes_or (bytes_seen cache block) (if nat_eq block first then head else tail)) n 0) same_place

  pub shows_with : ShowsImage (image_with cache first head tail) cache
  shows_with = record {
    states = λ block. refl;
    bytes = λ block bytes seen k inside.
        sym (byte-image_with block k inside
        ∙ ap (λ (o : Option (List ℕ)). get_or (bytes_or o (if nat_eq block first then head else tail)) k 0) seen);
  }

pub shows_in : (cache : CacheState) → ShowsImage (image_in cache) cache
shows_in cache = shows_with cache 0 _ _

-- Images with the same states, and with the same bytes in each block whose old bytes the edit needs.
pub record IsSameFor (edit : ByteEdit) (one other : Image) : Type 0 where
  pub kinds : (block : ℕ) → one.kind block ≡ other.kind block
  pub bytes : (block k : ℕ) → k < 4096 → needs_old edit block ≡ true → one.byte (4096 * block + k) ≡ other.byte (4096 * block + k)

same_from : (one other : Image) (place count : ℕ) → ((k : ℕ) → k < count → one.byte (place + k) ≡ other.byte (place + k)) → bytes_from one place count ≡ bytes_from other place count
same_from one other place count same =
    let long = length-map-range_with_len one.byte place count in
    same_lists (bytes_from one place count) (bytes_from other place count) (long ∙ sym (length-map-range_with_len other.byte place count))
    (λ k d below.
    let less : k < count = omega (arith, below, long) in
    get_or-map-range_with_len one.byte place count k (place + k) d less refl ∙ same k less
    ∙ sym (get_or-map-range_with_len other.byte place count k (place + k) d less refl))

-- where the parts of a put and of zeroes stand that aren't of whole blocks
module _ (offset count : ℕ) (some : 1 ≤ count) where
  abbrev last : ℕ
  last = last_of (offset / 4096) (blocks_met offset count)

  in_front : (k : ℕ) → k < offset % 4096 → is_in_part offset count (offset / 4096) ≡ true
  in_front k low = grind (arith, nat_tests, low, some)

  behind : (k : ℕ) → k < 4096 * (offset / 4096 + blocks_met offset count) - (offset + count) → is_in_part offset count last ≡ true
  behind k low = grind (arith, nat_tests, low, some)

  met_first : spans offset count (offset / 4096) ≡ false → is_in_part offset count (offset / 4096) ≡ true
  met_first is = grind (arith, nat_tests, is, some)

  met_last : spans offset count last ≡ false → is_in_part offset count last ≡ true
  met_last is = grind (arith, nat_tests, is, some)

not_spanned : (stored spanned : Bool) → (stored && not spanned) ≡ true → spanned ≡ false
not_spanned true false is = refl
not_spanned true true is = sym is
not_spanned false spanned is = absurd (both_ways false refl is)

-- a clear by its edges
within_same : (first blocks : ℕ) (kind : Kind) (head tail : Bool) (one other ending also : List ℕ) → (head ≡ true → one ≡ other) → (tail ≡ true → ending ≡ also)
    → cleared_within first blocks kind head tail one ending ≡ cleared_within first blocks kind head tail other also
within_same first blocks kind true true one other ending also at_head at_tail = λ i. cleared_within first blocks kind true true (at_head refl i) (at_tail refl i)
within_same first blocks kind true false one other ending also at_head at_tail = λ i. cleared_within first blocks kind true false (at_head refl i) ending
within_same first blocks kind false true one other ending also at_head at_tail = λ i. cleared_within first blocks kind false true one (at_tail refl i)
within_same first blocks kind false false one other ending also at_head at_tail = refl

-- An edit becomes the same over them.
pub same_becomes : (edit : ByteEdit) (one other : Image) → 1 ≤ count_of edit → IsSameFor edit one other → becomes edit one ≡ becomes edit other
same_becomes (BytesPut offset bytes) one other some same =
    let count = length bytes in
    let first = offset / 4096 in
    let end = last offset count some in
    let front : front_bytes offset bytes one ≡ front_bytes offset bytes other =
    same_from one other (4096 * first) (offset % 4096) (λ k low. same.bytes first k (omega (arith, low)) (in_front offset count some k low)) in
    let back : back_bytes offset bytes one ≡ back_bytes offset bytes other =
    same_from one other (offset + count) (4096 * (first + blocks_met offset count) - (offset + count)) (λ k low.
    let at : 4096 * end + (offset + count + k - 4096 * end) ≡ offset + count + k = omega (arith, low, some) in
    ap one.byte (sym at)
    ∙ same.bytes end (offset + count + k - 4096 * end) (omega (arith, low, some)) (behind offset count some k low)
    ∙ ap other.byte at) in
    ap (λ (l : List ℕ). Written first l)
    (put_parts offset bytes one ∙ (λ i. front i ++ (bytes ++ back i)) ∙ sym (put_parts offset bytes other))
same_becomes (BytesZeroed offset count kind) one other some same =
    let first = offset / 4096 in
    let blocks = blocks_met offset count in
    let end = last offset count some in
    let edit = BytesZeroed offset count kind in
    let of = λ (a b : Kind) (image : Image). cleared_within first blocks kind (is_partial_data offset count first a) (not (nat_eq end first) && is_partial_data offset count end b)
    (bytes_of (apply_edit edit image) first 1) (bytes_of (apply_edit edit image) end 1) in
    let block_same = λ (block : ℕ) (part : is_in_part offset count block ≡ true).
    same_from (apply_edit edit one) (apply_edit edit other) (4096 * block) (4096 * 1) (λ k low.
    ap (byte_edited edit (4096 * block + k)) (same.bytes block k (omega (arith, low)) part)) in
    within_same first blocks kind (is_partial_data offset count first (one.kind first)) (not (nat_eq end first) && is_partial_data offset count end (one.kind end)) _ _ _ _
    (λ head. block_same first (met_first offset count some (not_spanned (is_data (one.kind first)) (spans offset count first) head)))
    (λ tail. block_same end (met_last offset count some (not_spanned (is_data (one.kind end)) (spans offset count end) (and_parts _ _ tail).1)))
    ∙ (λ i. of (same.kinds first i) (same.kinds end i) other)
same_becomes (BytesTrimmed offset count) one other some same = refl

-- Room goes by the states alone.
room_bytes : (order : OrderState) (first blocks : ℕ) (kind : Kind) (head tail : Bool) (one other ending also : List ℕ) → length one ≡ length other → length ending ≡ length also
    → has_room_for order (cleared_within first blocks kind head tail one ending) ≡ has_room_for order (cleared_within first blocks kind head tail other also)
room_bytes order first blocks kind true true one other ending also at_head at_tail =
    ap (λ (n : ℕ). frames_suffice order.frames order.dirty (order.mark + 1) (Edged first blocks kind Both []) && nat_le (sum order.bodies + (14 + n)) 67108864)
    (length-append one ending ∙ (λ i. at_head i + at_tail i) ∙ sym (length-append other also))
room_bytes order first blocks kind true false one other ending also at_head at_tail =
    ap (λ (n : ℕ). frames_suffice order.frames order.dirty (order.mark + 1) (Edged first blocks kind Head []) && nat_le (sum order.bodies + (14 + n)) 67108864) at_head
room_bytes order first blocks kind false true one other ending also at_head at_tail =
    ap (λ (n : ℕ). frames_suffice order.frames order.dirty (order.mark + 1) (Edged first blocks kind Tail []) && nat_le (sum order.bodies + (14 + n)) 67108864) at_tail
room_bytes order first blocks kind false false one other ending also at_head at_tail = refl

pub same_room : (order : OrderState) (edit : ByteEdit) (one other : Image) → ((block : ℕ) → one.kind block ≡ other.kind block)
    → has_room_for order (becomes edit one) ≡ has_room_for order (becomes edit other)
same_room order (BytesPut offset bytes) one other kinds =
    let first = offset / 4096 in
    let blocks = blocks_met offset (length bytes) in
    ap (λ (n : ℕ). nat_le (len (with_blocks order.dirty (order.mark + 1) first ((n + 4095) / 4096))) order.frames && nat_le (sum order.bodies + (13 + n)) 67108864)
    (length-bytes_of (apply_edit (BytesPut offset bytes) one) first blocks ∙ sym (length-bytes_of (apply_edit (BytesPut offset bytes) other) first blocks))
same_room order (BytesZeroed offset count kind) one other kinds =
    let first = offset / 4096 in
    let blocks = blocks_met offset count in
    let end = last_of first blocks in
    let edit = BytesZeroed offset count kind in
    let of : Kind → Kind → Image → Bool = λ a b image. has_room_for order (cleared_within first blocks kind (is_partial_data offset count first a)
    (not (nat_eq end first) && is_partial_data offset count end b) (bytes_of (apply_edit edit image) first 1) (bytes_of (apply_edit edit image) end 1)) in
    (λ i. of (kinds first i) (kinds end i) one)
    ∙ room_bytes order first blocks kind (is_partial_data offset count first (other.kind first)) (not (nat_eq end first) && is_partial_data offset count end (other.kind end)) _ _ _ _
    (length-bytes_of (apply_edit edit one) first 1 ∙ sym (length-bytes_of (apply_edit edit other) first 1))
    (length-bytes_of (apply_edit edit one) end 1 ∙ sym (length-bytes_of (apply_edit edit other) end 1))
same_room order (BytesTrimmed offset count) one other kinds = refl

pub same_refusal : (order : OrderState) (edit : ByteEdit) (one other : Image) → ((block : ℕ) → one.kind block ≡ other.kind block)
    → refusal_for order (becomes edit one) ≡ refusal_for order (becomes edit other)
same_refusal order edit one other kinds =
    ap (λ (room : Bool). if order.stopped then Some Stopped else (if nat_eq order.mark 18446744073709551615 then Some NumbersFull else (if room then None else Some NoRoom)))
    (same_room order edit one other kinds)

-- The room that an edit is looked for is that of what it becomes over any image that memory shows.
pub room_shown : (order : OrderState) (edit : ByteEdit) (image : Image) → ShowsImage image order.cache
    → has_room_for order (becomes edit (image_in order.cache)) ≡ has_room_for order (becomes edit image)
room_shown order edit image shows = same_room order edit (image_in order.cache) image shows.states

-- What the order takes over one image it takes over another one over which the edit becomes the same.
pub same_takes : (edit : ByteEdit) (one other : Image) (old new : OrderState) (before after : PassState) → becomes edit one ≡ becomes edit other
    → TakesEdit edit one old new before after → TakesEdit edit other old new before after
same_takes edit one other old new before after same t = record {
  command = t.command;
  is = t.is ∙ same;
  taken = t.taken;
  pass = t.pass ∙ ap (λ (change : Change). record before { history = new.history; accepted = old.mark + 1; own = record { count = before.own.count + 1; last = Some (record { number = old.mark + 1; change = change }) }; client = after.client }) same;
  seen = subst (λ (change : Change). ShowsCommand change old.cache new.cache) same t.seen;
  shown = subst (λ (change : Change). (given : Image) → ShowsImage given old.cache → ShowsImage (apply change given) new.cache) same t.shown;
}
