-- which blocks an edit needs old bytes of, and what is made of them
use Rattle.std.proofs.Common.{◌≡◌, inl, inr, ◌⊎◌, ⊎_elim, ℕ, ◌+◌, ◌-◌, ◌*◌, ◌/◌, ◌%◌, ◌≤◌, ◌<◌, Bool, true, false, nat_eq, max, min, if◌then◌else◌, List, ◌++◌, length, take, drop, replicate, get_or, Option, Some, None, ap, sym, subst, ◌∙◌, refl, arith, append_assoc, length-append, length-drop}
use Rattle.std.specs.Option.{unwrap_or}
use Rattle.std.proofs.Math.Seq.{take-length}
use Rattle.std.proofs.lemmas.Bool.{cases_lt, le-ltb, lt-ltb}
use Rattle.std.proofs.lemmas.Bool.Decides.{nat_tests}
use Rattle.std.proofs.lemmas.List.{get_or-drop, get_or-replicate, get_or-take, get_or_append_left, get_or-append_right, get_or_default, length-replicate, length-take-le, same_lists}
use Rattle.std.proofs.lemmas.List.FromFn.{get_or-map-range_with_len, length-map-range_with_len}
use Rattle.device_image.specs.Holds.{is_written}
use Rattle.image_model.specs.declared.command.Edges.{Edges}
use Rattle.image_model.specs.declared.command.Edges.TheVariants.{Head}
use Rattle.image_model.specs.declared.command.Kind.{Kind}
use Rattle.image_model.specs.declared.command.Kind.TheVariants.{Data, Hole}
use Rattle.image_model.specs.Change.{Change, Cleared, Edged}
use Rattle.image_model.specs.Edit.{ByteEdit, BytesPut, BytesZeroed, BytesTrimmed, apply_edit, becomes, blocks_met, bytes_of, cleared_within, count_of, end_spanned, first_spanned, offset_of}
use Rattle.image_model.specs.Image.{Image, covers, last_of}
use Rattle.image_model.specs.laws.Becoming.{get-bytes_of, length-bytes_of}
use Rattle.image_model.specs.laws.WholeEdits.{back_bytes, bytes_from, front_bytes, put_parts}
use Rattle.shared_cache.specs.Cache.{CacheState, bytes_seen}
use Rattle.shared_cache.specs.laws.Views.{missing_seen}
use Rattle.order_book.specs.Cached.{dirty_of}
use Rattle.order_book.specs.Edits.{IsMissing, LacksOld, bytes_or, image_with, is_in_part, needs_old}
use Rattle.order_book.specs.inner.Edits.{edge_bytes, edges_given, put_bytes, zeroed_block}
use Rattle.order_book.specs.Reading.{IsCleanAt}
use Rattle.order_book.specs.Shown.{ShowsImage}
use Rattle.order_book.specs.laws.Edited.{IsSameFor, byte-image_with}
use Rattle.order_book.proofs.ReadsShowImage.{bytes_read}

-- a block of which old bytes are needed is the first that the edit touches, or the last
in_part_ends : (offset count block : ℕ) → 1 ≤ count → is_in_part offset count block ≡ true → (block ≡ offset / 4096) ⊎ (block ≡ (offset + count - 1) / 4096)
in_part_ends offset count block some is = ⊎_elim (λ less. inl (low less)) (λ more. ⊎_elim (λ l. inl (mid more l)) (λ m. inr (high m)) (cases_lt block ((offset + count - 1) / 4096))) (cases_lt block (offset / 4096 + 1))
  where
    low : block < offset / 4096 + 1 → block ≡ offset / 4096
    low less = grind (arith, nat_tests, is, some)

    mid : offset / 4096 + 1 ≤ block → block < (offset + count - 1) / 4096 → block ≡ offset / 4096
    mid more less = grind (arith, nat_tests, is, some)

    high : (offset + count - 1) / 4096 ≤ block → block ≡ (offset + count - 1) / 4096
    high more = grind (arith, nat_tests, is, some)

pub needed_ends : (edit : ByteEdit) (block : ℕ) → 1 ≤ count_of edit → needs_old edit block ≡ true
    → (block ≡ offset_of edit / 4096) ⊎ (block ≡ (offset_of edit + count_of edit - 1) / 4096)
needed_ends (BytesPut offset bytes) block some is = in_part_ends offset (length bytes) block some is
needed_ends (BytesZeroed offset count kind) block some is = in_part_ends offset count block some is
needed_ends (BytesTrimmed offset count) block some is = cc

-- one that is missing is one of them, and not the last unless it is missing
pub missing_ends : (edit : ByteEdit) (cache : CacheState) → 1 ≤ count_of edit → LacksOld edit cache
    → IsMissing edit cache (offset_of edit / 4096) ⊎ IsMissing edit cache ((offset_of edit + count_of edit - 1) / 4096)
missing_ends edit cache some lacks = elim (needed_ends edit lacks.0 some lacks.1.0) [
  | inl is ↦ inl (subst (IsMissing edit cache) is lacks.1)
  | inr is ↦ inr (subst (IsMissing edit cache) is lacks.1)
]

pub ends_missing : (edit : ByteEdit) (cache : CacheState) (start end : ℕ) → 1 ≤ count_of edit → start ≡ offset_of edit / 4096 → end ≡ (offset_of edit + count_of edit - 1) / 4096
    → LacksOld edit cache → IsMissing edit cache start ⊎ IsMissing edit cache end
ends_missing edit cache start end some start_is end_is lacks = elim (missing_ends edit cache some lacks) [
  | inl at ↦ inl (subst (IsMissing edit cache) (sym start_is) at)
  | inr at ↦ inr (subst (IsMissing edit cache) (sym end_is) at)
]

-- the images that stand for memory, where nothing that the edit needs is missing, and where what is missing was read
pub same_held : (edit : ByteEdit) (image : Image) (cache : CacheState) (first : ℕ) (head tail : List ℕ) → ShowsImage image cache → (LacksOld edit cache → ⊥)
    → IsSameFor edit (image_with cache first head tail) image
same_held edit image cache first head tail shows none = record {
  kinds = shows.states;
  bytes = λ block k below needed. byte-image_with cache first head tail block k below ∙ by block k below needed (bytes_seen cache block) refl;
}
  where
    by : (block k : ℕ) → k < 4096 → needs_old edit block ≡ true → (seen : Option (List ℕ)) → bytes_seen cache block ≡ seen
        → get_or (bytes_or (bytes_seen cache block) (if nat_eq block first then head else tail)) k 0 ≡ image.byte (4096 * block + k)
    by block k below needed (Some bytes) is = ap (λ (o : Option (List ℕ)). get_or (bytes_or o (if nat_eq block first then head else tail)) k 0) is ∙ shows.bytes block bytes is k below
    by block k below needed None is = let missing = missing_seen cache block is in absurd (none (block, (needed, missing.0, missing.1)))

pub same_read : (edit : ByteEdit) (base image : Image) (front : List Change) (cache : CacheState) (first : ℕ) (head tail : List ℕ) → ShowsImage image cache → IsCleanAt base front image (dirty_of cache)
    → ((block k : ℕ) → k < 4096 → IsMissing edit cache block → base.kind block ≡ Data → is_written block front ≡ false
    → get_or (if nat_eq block first then head else tail) k 0 ≡ base.byte (4096 * block + k))
    → IsSameFor edit (image_with cache first head tail) image
same_read edit base image front cache first head tail shows clean read = record {
  kinds = shows.states;
  bytes = λ block k below needed.
      let other = if nat_eq block first then head else tail in
      byte-image_with cache first head tail block k below
      ∙ bytes_read base image front cache block k _ shows clean below
      (λ bytes seen. ap (λ (o : Option (List ℕ)). get_or (bytes_or o other) k 0) seen)
      (λ none is_data unwritten.
      let missing = missing_seen cache block none in
      ap (λ (o : Option (List ℕ)). get_or (bytes_or o other) k 0) none ∙ read block k below (needed, missing.0, missing.1) is_data unwritten);
}

-- some of the old bytes of a block, as those of an image
old_part : (image : Image) (block from count place : ℕ) (old : List ℕ) → from + count ≤ 4096 → length old ≡ 4096 → place ≡ 4096 * block + from
    → ((k : ℕ) → k < 4096 → image.byte (4096 * block + k) ≡ get_or old k 0) → bytes_from image place count ≡ take count (drop from old)
old_part image block from count place old within long at are =
    let size = length-map-range_with_len image.byte place count in
    let taken : length (take count (drop from old)) ≡ count = length-take-le count (drop from old) (omega (arith, length-drop from old, long, within)) in
    same_lists (bytes_from image place count) (take count (drop from old)) (size ∙ sym taken)
    (λ k d below.
    let less : k < count = omega (arith, below, size) in
    get_or-map-range_with_len image.byte place count k (4096 * block + (from + k)) d less (omega (arith, at))
    ∙ are (from + k) (omega (arith, less, within))
    ∙ get_or_default old (from + k) 0 d (omega (arith, less, within, long))
    ∙ sym (get_or-take count (drop from old) k d less ∙ get_or-drop from old k d))

-- what is built of a put in part
pub put_becomes : (offset : ℕ) (bytes first last : List ℕ) (image : Image) → 1 ≤ length bytes → length first ≡ 4096 → length last ≡ 4096
    → ((k : ℕ) → k < 4096 → image.byte (4096 * (offset / 4096) + k) ≡ get_or first k 0)
    → ((k : ℕ) → k < 4096 → image.byte (4096 * last_of (offset / 4096) (blocks_met offset (length bytes)) + k) ≡ get_or last k 0)
    → put_bytes first offset bytes last ≡ bytes_of (apply_edit (BytesPut offset bytes) image) (offset / 4096) (blocks_met offset (length bytes))
put_becomes offset bytes first last image some long also in_first in_last =
    let count = length bytes in
    let blocks = blocks_met offset count in
    let behind = offset % 4096 + count - 4096 * (blocks - 1) in
    let rest = 4096 * (offset / 4096 + blocks) - (offset + count) in
    let front : front_bytes offset bytes image ≡ take (offset % 4096) first =
    old_part image (offset / 4096) 0 (offset % 4096) (4096 * (offset / 4096)) first (omega arith) long (omega arith) in_first in
    let all : take rest (drop behind last) ≡ drop behind last =
    ap (λ (n : ℕ). take n (drop behind last)) (omega (arith, length-drop behind last, also, some)) ∙ take-length (drop behind last) in
    let back : back_bytes offset bytes image ≡ drop behind last =
    old_part image (last_of (offset / 4096) blocks) behind rest (offset + count) last (omega (arith, some)) also (omega (arith, some)) in_last ∙ all in
    append_assoc (take (offset % 4096) first) bytes (drop behind last)
    ∙ sym (put_parts offset bytes image ∙ (λ i. front i ++ (bytes ++ back i)))

-- what is built of an edge
module _ (offset count block : ℕ) (old : List ℕ) (kind : Kind) (image : Image) (long : length old ≡ 4096) (low : offset < 4096 * block + 4096) (high : 4096 * block < offset + count)
    (are : (k : ℕ) → k < 4096 → image.byte (4096 * block + k) ≡ get_or old k 0) where
  abbrev from : ℕ
  from = max offset (4096 * block) - 4096 * block

  abbrev to : ℕ
  to = min (offset + count) (4096 * block + 4096) - 4096 * block

  abbrev front : List ℕ
  front = take from old ++ replicate (to - from) 0

  order : (from ≤ to) × (to ≤ 4096)
  order = (omega (arith, low, high), omega (arith, low, high))

  long_first : length (take from old) ≡ from
  long_first = length-take-le from old (omega (arith, long, order.0, order.1))

  long_front : length front ≡ to
  long_front =
      let split = length-append (take from old) (replicate (to - from) 0) in
      let zeros : length (replicate (to - from) 0) ≡ to - from = length-replicate {A = ℕ} (to - from) 0 in
      omega (arith, split, long_first, zeros, order.0)

  long_zeroed : length (zeroed_block offset count block old) ≡ 4096
  long_zeroed =
      let split = length-append front (drop to old) in
      let rest = length-drop to old in
      omega (arith, split, long_front, rest, long, order.1)

  module _ (k : ℕ) (below : k < 4096) where
    own : get_or (bytes_of (apply_edit (BytesZeroed offset count kind) image) block 1) k 0 ≡ (if covers offset count (4096 * block + k) then 0 else image.byte (4096 * block + k))
    own = get-bytes_of (apply_edit (BytesZeroed offset count kind) image) block 1 k (4096 * block + k) (omega (arith, below)) refl

    old_is : covers offset count (4096 * block + k) ≡ false → get_or (bytes_of (apply_edit (BytesZeroed offset count kind) image) block 1) k 0 ≡ get_or old k 0
    old_is none = own ∙ ap (λ (test : Bool). if test then 0 else image.byte (4096 * block + k)) none ∙ are k below

    zero_is : covers offset count (4096 * block + k) ≡ true → get_or (bytes_of (apply_edit (BytesZeroed offset count kind) image) block 1) k 0 ≡ 0
    zero_is some = own ∙ ap (λ (test : Bool). if test then 0 else image.byte (4096 * block + k)) some

    at_front : k < from → get_or (zeroed_block offset count block old) k 0 ≡ get_or (bytes_of (apply_edit (BytesZeroed offset count kind) image) block 1) k 0
    at_front less =
        get_or_append_left front (drop to old) 0 k (omega (arith, less, long_front, order.0))
        ∙ get_or_append_left (take from old) (replicate (to - from) 0) 0 k (omega (arith, less, long_first))
        ∙ get_or-take from old k 0 less
        ∙ sym (old_is (grind (arith, nat_tests, less)))

    at_zeros : from ≤ k → k < to → get_or (zeroed_block offset count block old) k 0 ≡ get_or (bytes_of (apply_edit (BytesZeroed offset count kind) image) block 1) k 0
    at_zeros more less =
        get_or_append_left front (drop to old) 0 k (omega (arith, less, long_front))
        ∙ get_or-append_right (take from old) (replicate (to - from) 0) from k 0 long_first more
        ∙ get_or-replicate (to - from) (k - from) 0 0 (omega (arith, more, less))
        ∙ sym (zero_is (grind (arith, nat_tests, more, less)))

    at_back : to ≤ k → get_or (zeroed_block offset count block old) k 0 ≡ get_or (bytes_of (apply_edit (BytesZeroed offset count kind) image) block 1) k 0
    at_back more =
        get_or-append_right front (drop to old) to k 0 long_front more
        ∙ get_or-drop to old (k - to) 0
        ∙ ap (λ (n : ℕ). get_or old n 0) (omega (arith, more))
        ∙ sym (old_is (grind (arith, nat_tests, more, below)))

    each : get_or (zeroed_block offset count block old) k 0 ≡ get_or (bytes_of (apply_edit (BytesZeroed offset count kind) image) block 1) k 0
    each = ⊎_elim at_front (λ more. ⊎_elim (at_zeros more) at_back (cases_lt k to)) (cases_lt k from)

  pub zeroed_is : zeroed_block offset count block old ≡ bytes_of (apply_edit (BytesZeroed offset count kind) image) block 1
  zeroed_is =
      let made = bytes_of (apply_edit (BytesZeroed offset count kind) image) block 1 in
      let size : length made ≡ 4096 = length-bytes_of (apply_edit (BytesZeroed offset count kind) image) block 1 in
      same_lists (zeroed_block offset count block old) made (long_zeroed ∙ sym size)
      (λ k d below.
      let less : k < 4096 = omega (arith, below, long_zeroed) in
      get_or_default (zeroed_block offset count block old) k d 0 below ∙ each k less ∙ get_or_default made k 0 d (omega (arith, less, size)))

-- a clear by its edges
pub edged_is : (first blocks : ℕ) (kind : Kind) (head tail : Bool) (edges : Edges) (one last : List ℕ) → Some edges ≡ edges_given head tail
    → Edged first blocks kind edges (edge_bytes edges one last) ≡ cleared_within first blocks kind head tail one last
edged_is first blocks kind true true edges one last is = ap (λ (o : Option Edges). Edged first blocks kind (unwrap_or o Head) (edge_bytes (unwrap_or o Head) one last)) is
edged_is first blocks kind true false edges one last is = ap (λ (o : Option Edges). Edged first blocks kind (unwrap_or o Head) (edge_bytes (unwrap_or o Head) one last)) is
edged_is first blocks kind false true edges one last is = ap (λ (o : Option Edges). Edged first blocks kind (unwrap_or o Head) (edge_bytes (unwrap_or o Head) one last)) is
edged_is first blocks kind false false edges one last is = cc

pub unedged_is : (first blocks : ℕ) (kind : Kind) (head tail : Bool) (one last : List ℕ) → None ≡ edges_given head tail
    → Cleared first blocks kind ≡ cleared_within first blocks kind head tail one last
unedged_is first blocks kind true true one last is = cc
unedged_is first blocks kind true false one last is = cc
unedged_is first blocks kind false true one last is = cc
unedged_is first blocks kind false false one last is = refl

-- a trim
pub trim_some : (offset count first end : ℕ) (image : Image) → first ≡ first_spanned offset → end ≡ end_spanned offset count → first < end
    → Cleared first (end - first) Hole ≡ becomes (BytesTrimmed offset count) image
trim_some offset count first end image from to some =
    let less : first_spanned offset < end_spanned offset count = omega (arith, from, to, some) in
    (λ i. Cleared (from i) (to i - from i) Hole)
    ∙ sym (ap (λ (test : Bool). if test then Cleared (first_spanned offset) (end_spanned offset count - first_spanned offset) Hole else Cleared (offset / 4096) 0 Hole)
    (lt-ltb (first_spanned offset) (end_spanned offset count) less))

pub trim_none : (offset count first end : ℕ) (image : Image) → first ≡ first_spanned offset → end ≡ end_spanned offset count → end ≤ first
    → Cleared (offset / 4096) 0 Hole ≡ becomes (BytesTrimmed offset count) image
trim_none offset count first end image from to none =
    let more : end_spanned offset count ≤ first_spanned offset = omega (arith, from, to, none) in
    sym (ap (λ (test : Bool). if test then Cleared (first_spanned offset) (end_spanned offset count - first_spanned offset) Hole else Cleared (offset / 4096) 0 Hole)
    (le-ltb (first_spanned offset) (end_spanned offset count) more))
