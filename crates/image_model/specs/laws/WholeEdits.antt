-- What edits of whole blocks become, and what a put in part is put together from.
use Rattle.std.proofs.Common.{◌≡◌, ⊎_elim, ℕ, ◌+◌, ◌-◌, ◌*◌, ◌/◌, ◌%◌, ◌≤◌, ◌<◌, Bool, true, false, ◌&&◌, not, nat_eq, if◌then◌else◌, List, ◌++◌, length, map, slice_index, sym, ap, ◌∙◌, refl, arith, length-append}
use Rattle.std.specs.List.{range_with_len}
use Rattle.std.proofs.lemmas.Bool.{cases_lt, lt-ltb}
use Rattle.std.proofs.lemmas.Bool.Decides.{nat_tests}
use Rattle.std.proofs.lemmas.List.{append-nil, get_or_append_left, get_or-append_right, get_or_default, same_lists}
use Rattle.std.proofs.lemmas.List.FromFn.{get_or-map-range_with_len, length-map-range_with_len}
use Rattle.image_model.specs.declared.command.Kind.{Kind}
use Rattle.image_model.specs.declared.command.Kind.TheVariants.{Hole}
use Rattle.image_model.specs.Change.{Written, Cleared}
use Rattle.image_model.specs.Image.{Image, covers, is_data, last_of}
use Rattle.image_model.specs.Edit.{BytesPut, BytesZeroed, BytesTrimmed, apply_edit, becomes, blocks_met, bytes_of, cleared_within, end_spanned, first_spanned, is_partial_data, spans}
use Rattle.image_model.specs.laws.Becoming.{get-bytes_of, length-bytes_of}

-- this many bytes of an image from a place on
abbrev pub bytes_from : Image → ℕ → ℕ → List ℕ
bytes_from image place count = map image.byte (range_with_len place count)

module _ (offset : ℕ) (bytes : List ℕ) (image : Image) where
  abbrev pub front_bytes : List ℕ
  front_bytes = bytes_from image (4096 * (offset / 4096)) (offset % 4096)

  abbrev pub end_place : ℕ
  end_place = 4096 * (offset / 4096 + blocks_met offset (length bytes))

  abbrev pub back_bytes : List ℕ
  back_bytes = bytes_from image (offset + length bytes) (end_place - (offset + length bytes))

  long_front : length front_bytes ≡ offset % 4096
  long_front = length-map-range_with_len image.byte (4096 * (offset / 4096)) (offset % 4096)

  long_back : length back_bytes ≡ end_place - (offset + length bytes)
  long_back = length-map-range_with_len image.byte (offset + length bytes) (end_place - (offset + length bytes))

  abbrev all_bytes : List ℕ
  all_bytes = bytes_of (apply_edit (BytesPut offset bytes) image) (offset / 4096) (blocks_met offset (length bytes))

  long_all : length all_bytes ≡ 4096 * blocks_met offset (length bytes)
  long_all = length-bytes_of (apply_edit (BytesPut offset bytes) image) (offset / 4096) (blocks_met offset (length bytes))

  module _ (k : ℕ) (below : k < 4096 * blocks_met offset (length bytes)) where
    abbrev place : ℕ
    place = 4096 * (offset / 4096) + k

    own : slice_index all_bytes k ≡ (if covers offset (length bytes) place then slice_index bytes (place - offset) else image.byte place)
    own = get-bytes_of (apply_edit (BytesPut offset bytes) image) (offset / 4096) (blocks_met offset (length bytes)) k place below refl

    in_front : k < offset % 4096 → slice_index all_bytes k ≡ slice_index (front_bytes ++ (bytes ++ back_bytes)) k
    in_front low =
        let outside : covers offset (length bytes) place ≡ false = grind (arith, nat_tests, low) in
        own ∙ ap (λ (test : Bool). if test then slice_index bytes (place - offset) else image.byte place) outside
        ∙ sym (get_or_append_left front_bytes (bytes ++ back_bytes) 0 k (omega (arith, long_front, low))
        ∙ get_or-map-range_with_len image.byte (4096 * (offset / 4096)) (offset % 4096) k place 0 low refl)

    in_bytes : offset % 4096 ≤ k → k < offset % 4096 + length bytes → slice_index all_bytes k ≡ slice_index (front_bytes ++ (bytes ++ back_bytes)) k
    in_bytes low high =
        let inside : covers offset (length bytes) place ≡ true = grind (arith, nat_tests, low, high) in
        let at : place - offset ≡ k - offset % 4096 = omega (arith, low) in
        own ∙ ap (λ (test : Bool). if test then slice_index bytes (place - offset) else image.byte place) inside
        ∙ ap (λ (n : ℕ). slice_index bytes n) at
        ∙ sym (get_or-append_right front_bytes (bytes ++ back_bytes) (offset % 4096) k 0 long_front low
        ∙ get_or_append_left bytes back_bytes 0 (k - offset % 4096) (omega (arith, low, high)))

    behind : offset % 4096 + length bytes ≤ k → slice_index all_bytes k ≡ slice_index (front_bytes ++ (bytes ++ back_bytes)) k
    behind high =
        let outside : covers offset (length bytes) place ≡ false = grind (arith, nat_tests, high) in
        own ∙ ap (λ (test : Bool). if test then slice_index bytes (place - offset) else image.byte place) outside
        ∙ sym (get_or-append_right front_bytes (bytes ++ back_bytes) (offset % 4096) k 0 long_front (omega (arith, high))
        ∙ get_or-append_right bytes back_bytes (length bytes) (k - offset % 4096) 0 refl (omega (arith, high))
        ∙ get_or-map-range_with_len image.byte (offset + length bytes) (end_place - (offset + length bytes)) (k - offset % 4096 - length bytes) place 0
        (omega (arith, high, below)) (omega (arith, high)))

    each : slice_index all_bytes k ≡ slice_index (front_bytes ++ (bytes ++ back_bytes)) k
    each = ⊎_elim in_front (λ low. ⊎_elim (in_bytes low) behind (cases_lt k (offset % 4096 + length bytes))) (cases_lt k (offset % 4096))

  -- a put in part: the image's bytes before it, its own, and the image's up to the end of its last block
  pub put_parts : all_bytes ≡ front_bytes ++ (bytes ++ back_bytes)
  put_parts = same_lists all_bytes (front_bytes ++ (bytes ++ back_bytes)) long
      (λ k d below.
      let less : k < 4096 * blocks_met offset (length bytes) = omega (arith, below, long_all) in
      get_or_default all_bytes k d 0 below ∙ each k less ∙ get_or_default (front_bytes ++ (bytes ++ back_bytes)) k 0 d (omega (arith, below, long)))
    where
      long : length all_bytes ≡ length (front_bytes ++ (bytes ++ back_bytes))
      long = omega (arith, long_all, length-append front_bytes (bytes ++ back_bytes), length-append bytes back_bytes, long_front, long_back)

  -- a put of whole blocks becomes the put of its bytes
  pub whole_put : offset % 4096 ≡ 0 → length bytes % 4096 ≡ 0 → becomes (BytesPut offset bytes) image ≡ Written (offset / 4096) bytes
  whole_put aligned whole =
      let none_behind : end_place - (offset + length bytes) ≡ 0 = omega (arith, aligned, whole) in
      ap (λ (l : List ℕ). Written (offset / 4096) l)
      (put_parts
      ∙ ap (λ (n : ℕ). bytes_from image (4096 * (offset / 4096)) n ++ (bytes ++ back_bytes)) aligned
      ∙ ap (λ (n : ℕ). bytes ++ bytes_from image (offset + length bytes) n) none_behind
      ∙ append-nil bytes)

-- zeroes and a trim of whole blocks become the clear of these blocks
module _ (offset count : ℕ) (image : Image) (aligned : offset % 4096 ≡ 0) (whole : count % 4096 ≡ 0) (some : 1 ≤ count) where
  all_met : blocks_met offset count ≡ count / 4096
  all_met = omega (arith, aligned, whole)

  no_edge : (block : ℕ) (kind : Kind) → offset / 4096 ≤ block → block < offset / 4096 + count / 4096 → is_partial_data offset count block kind ≡ false
  no_edge block kind low high =
      let spanned : spans offset count block ≡ true = grind (arith, nat_tests, aligned, whole, low, high) in
      ap (λ (test : Bool). is_data kind && not test) spanned ∙ never (is_data kind)
    where
      never : (test : Bool) → (test && false) ≡ false
      never true = refl
      never false = refl

  not_both : (test other : Bool) → other ≡ false → (test && other) ≡ false
  not_both true other is = is
  not_both false other is = refl

  pub whole_zeroes : (kind : Kind) → becomes (BytesZeroed offset count kind) image ≡ Cleared (offset / 4096) (count / 4096) kind
  whole_zeroes kind =
      let first = offset / 4096 in
      let last = last_of first (blocks_met offset count) in
      let after = apply_edit (BytesZeroed offset count kind) image in
      ap (λ (head : Bool). cleared_within first (blocks_met offset count) kind head (not (nat_eq last first) && is_partial_data offset count last (image.kind last)) (bytes_of after first 1) (bytes_of after last 1))
      (no_edge first (image.kind first) (omega arith) (omega (arith, whole, some)))
      ∙ ap (λ (tail : Bool). cleared_within first (blocks_met offset count) kind false tail (bytes_of after first 1) (bytes_of after last 1))
      (not_both (not (nat_eq last first)) (is_partial_data offset count last (image.kind last))
      (no_edge last (image.kind last) (omega (arith, all_met, whole, some)) (omega (arith, all_met, whole, some))))
      ∙ ap (λ (blocks : ℕ). Cleared first blocks kind) all_met

  pub whole_trim : becomes (BytesTrimmed offset count) image ≡ Cleared (offset / 4096) (count / 4096) Hole
  whole_trim =
      let from : first_spanned offset ≡ offset / 4096 = omega (arith, aligned) in
      let end : end_spanned offset count ≡ offset / 4096 + count / 4096 = omega (arith, aligned, whole) in
      let blocks : end_spanned offset count - first_spanned offset ≡ count / 4096 = omega (arith, from, end) in
      ap (λ (test : Bool). if test then Cleared (first_spanned offset) (end_spanned offset count - first_spanned offset) Hole else Cleared (offset / 4096) 0 Hole)
      (lt-ltb (first_spanned offset) (end_spanned offset count) (omega (arith, from, end, whole, some)))
      ∙ ap (λ (n : ℕ). Cleared n (end_spanned offset count - first_spanned offset) Hole) from
      ∙ ap (λ (n : ℕ). Cleared (offset / 4096) n Hole) blocks
