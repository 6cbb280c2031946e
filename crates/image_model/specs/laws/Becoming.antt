-- Carrying out what an edit becomes over an image is carrying out the edit.
use Rattle.std.proofs.Common.{◌≡◌, ℕ, ◌+◌, ◌-◌, ◌*◌, ◌/◌, ◌%◌, ◌≤◌, ◌<◌, ◌^◌, Bool, true, false, ◌&&◌, not, nat_eq, nat_lt, if◌then◌else◌, Option, Some, None, List, ◌++◌, length, slice_index, sym, ap, ◌∙◌, subst, refl, arith, length-append}
use Rattle.std.proofs.lemmas.Bool.{and_parts, both_ways, eqb-true, ltb-true, ltb-false, not-true}
use Rattle.std.proofs.lemmas.Bool.Decides.{nat_tests}
use Rattle.std.proofs.lemmas.List.{get_or_append_left, get_or-append_right}
use Rattle.std.proofs.lemmas.List.FromFn.{get_or-map-range_with_len, length-map-range_with_len}
use Rattle.image_model.specs.declared.command.Edges.TheVariants.{Head, Tail, Both}
use Rattle.image_model.specs.declared.command.Kind.{Kind}
use Rattle.image_model.specs.declared.command.Kind.TheVariants.{Data, Zero, Hole}
use Rattle.image_model.specs.Change.{Change, Written, Cleared, IsChange, IsCleared}
use Rattle.image_model.specs.Image.{Image, apply, byte_after, byte_in, covers, data_of, edge_slot, is_data, kind_given, kind_in, last_of, slot, touches}
use Rattle.image_model.specs.Edit.{ByteEdit, BytesPut, BytesZeroed, BytesTrimmed, IsEdit, IsZeroElsewhere, apply_edit, becomes, blocks_met, byte_edited, bytes_of, cleared_within, count_of, end_spanned, first_spanned, is_partial_data, kind_edited, meets, spans}
use Rattle.image_model.specs.laws.DirtyMaps.{covers_none}
use Rattle.image_model.specs.laws.Edits.{met, spanned, none_spanned}

-- images of one size with the same byte at each place and the same state of each block are one
pub same_image : (image other : Image) → image.blocks ≡ other.blocks → ((place : ℕ) → image.byte place ≡ other.byte place) → ((block : ℕ) → image.kind block ≡ other.kind block) → image ≡ other
same_image image other size bytes kinds = λ i. record { blocks = size i; byte = λ place. bytes place i; kind = λ block. kinds block i }

-- the bytes of blocks of an image, one after another
module _ (image : Image) (first blocks : ℕ) where
  pub length-bytes_of : length (bytes_of image first blocks) ≡ 4096 * blocks
  length-bytes_of = length-map-range_with_len image.byte (4096 * first) (4096 * blocks)

  pub get-bytes_of : (at place : ℕ) → at < 4096 * blocks → 4096 * first + at ≡ place → slice_index (bytes_of image first blocks) at ≡ image.byte place
  get-bytes_of at place below is = get_or-map-range_with_len image.byte (4096 * first) (4096 * blocks) at place 0 below is

-- a byte of an edit stands in a block that the edit touches
pub untouched_place : (offset count place : ℕ) → covers (offset / 4096) (blocks_met offset count) (place / 4096) ≡ false → covers offset count place ≡ false
untouched_place offset count place is = grind (arith, nat_tests, is)

-- by the place and by the block what a change makes of an image is what an edit makes of it
abbrev SameByte : Change → ByteEdit → Image → ℕ → Type 0
SameByte change edit image place = byte_after (place / 4096) (place % 4096) change (image.byte place) ≡ byte_edited edit place (image.byte place)

abbrev SameKind : Change → ByteEdit → Image → ℕ → Type 0
SameKind change edit image block =
    (if touches block change then kind_in (slot block change) (kind_given change) else image.kind block) ≡ kind_edited edit block (image.kind block)

same_under : {X : Type 0} (test : Bool) (x y z : X) → (test ≡ true → x ≡ z) → (test ≡ false → y ≡ z) → (if test then x else y) ≡ z
same_under true x y z here there = here refl
same_under false x y z here there = there refl

-- a put writes all blocks that it touches
module _ (offset : ℕ) (bytes : List ℕ) (image : Image) (some : 1 ≤ length bytes) where
  abbrev put_edit : ByteEdit
  put_edit = BytesPut offset bytes

  abbrev put_bytes : List ℕ
  put_bytes = bytes_of (apply_edit put_edit image) (offset / 4096) (blocks_met offset (length bytes))

  abbrev put_change : Change
  put_change = Written (offset / 4096) put_bytes

  put_touches : (block : ℕ) → touches block put_change ≡ covers (offset / 4096) (blocks_met offset (length bytes)) block
  put_touches block =
      let count : (length put_bytes + 4095) / 4096 ≡ blocks_met offset (length bytes) =
      omega (arith, length-bytes_of (apply_edit put_edit image) (offset / 4096) (blocks_met offset (length bytes))) in
      ap (λ (n : ℕ). covers (offset / 4096) n block) count

  put_byte : (place : ℕ) → SameByte put_change put_edit image place
  put_byte place = same_under (touches (place / 4096) put_change) _ _ _
      (λ inside.
      let covered : covers (offset / 4096) (blocks_met offset (length bytes)) (place / 4096) ≡ true = sym (put_touches (place / 4096)) ∙ inside in
      let low : offset / 4096 ≤ place / 4096 = grind (arith, nat_tests, covered) in
      let high : place / 4096 < offset / 4096 + blocks_met offset (length bytes) = grind (arith, nat_tests, covered) in
      ap (λ (test : Bool). byte_in (if test then Some (4096 * (place / 4096 - offset / 4096)) else None) put_bytes (place % 4096)) inside
      ∙ get-bytes_of (apply_edit put_edit image) (offset / 4096) (blocks_met offset (length bytes)) (4096 * (place / 4096 - offset / 4096) + place % 4096) place
      (omega (arith, low, high)) (omega (arith, low)))
      (λ outside.
      let none = untouched_place offset (length bytes) place (sym (put_touches (place / 4096)) ∙ outside) in
      sym (ap (λ (test : Bool). if test then slice_index bytes (place - offset) else image.byte place) none))

  always_data : (at : Option ℕ) → kind_in at Data ≡ Data
  always_data None = refl
  always_data (Some at) = refl

  put_kind : (block : ℕ) → SameKind put_change put_edit image block
  put_kind block =
      ap (λ (kind : Kind). if touches block put_change then kind else image.kind block) (always_data (slot block put_change))
      ∙ ap (λ (test : Bool). if test then Data else image.kind block) (put_touches block ∙ sym (met offset (length bytes) block some))

  put_becomes : apply put_change image ≡ apply_edit put_edit image
  put_becomes = same_image _ _ refl put_byte put_kind

-- a trim clears the blocks that it spans, or none
module _ (offset count : ℕ) (image : Image) where
  abbrev trim_edit : ByteEdit
  trim_edit = BytesTrimmed offset count

  trim_spans : first_spanned offset < end_spanned offset count
      → apply (Cleared (first_spanned offset) (end_spanned offset count - first_spanned offset) Hole) image ≡ apply_edit trim_edit image
  trim_spans some = same_image _ _ refl
      (λ place. ap (λ (test : Bool). if test then 0 else image.byte place) (sym (spanned offset count (place / 4096) some)))
      (λ block. ap (λ (test : Bool). if test then Hole else image.kind block) (sym (spanned offset count block some)))

  trim_none : end_spanned offset count ≤ first_spanned offset → apply (Cleared (offset / 4096) 0 Hole) image ≡ apply_edit trim_edit image
  trim_none none = same_image _ _ refl
      (λ place. ap (λ (test : Bool). if test then 0 else image.byte place) (covers_none (offset / 4096) (place / 4096) ∙ sym (none_spanned offset count (place / 4096) none)))
      (λ block. ap (λ (test : Bool). if test then Hole else image.kind block) (covers_none (offset / 4096) block ∙ sym (none_spanned offset count block none)))

  trim_becomes : apply (becomes trim_edit image) image ≡ apply_edit trim_edit image
  trim_becomes = by_count (nat_lt (first_spanned offset) (end_spanned offset count)) refl
    where
      by_count : (test : Bool) → nat_lt (first_spanned offset) (end_spanned offset count) ≡ test
          → apply (if test then Cleared (first_spanned offset) (end_spanned offset count - first_spanned offset) Hole else Cleared (offset / 4096) 0 Hole) image ≡ apply_edit trim_edit image
      by_count true is = trim_spans (ltb-true (first_spanned offset) (end_spanned offset count) is)
      by_count false is = trim_none (ltb-false (first_spanned offset) (end_spanned offset count) is)

-- What a slot tells of a block, where `wanted` says whether the block is to have bytes of its own, and `byte` which.
abbrev TellsBlock : Option ℕ → List ℕ → Bool → (ℕ → ℕ) → Type 0
TellsBlock None bytes wanted byte = wanted ≡ false
TellsBlock (Some at) bytes wanted byte = (wanted ≡ true) × ((k : ℕ) → k < 4096 → slice_index bytes (at + k) ≡ byte k)

-- zeroes clear the blocks that they touch, but for data blocks that they cover in part
module _ (offset count : ℕ) (given : Kind) (image : Image) (some : 1 ≤ count) (zero : IsZeroElsewhere image) where
  abbrev zero_edit : ByteEdit
  zero_edit = BytesZeroed offset count given

  abbrev first : ℕ
  first = offset / 4096

  abbrev blocks : ℕ
  blocks = blocks_met offset count

  abbrev last : ℕ
  last = last_of first blocks

  abbrev edge : ℕ → Bool
  edge block = is_partial_data offset count block (image.kind block)

  abbrev edge_bytes : ℕ → List ℕ
  edge_bytes block = bytes_of (apply_edit zero_edit image) block 1

  -- a block between the first and the last is covered wholly
  between : (block : ℕ) → covers first blocks block ≡ true → nat_eq block first ≡ false → nat_eq block last ≡ false → spans offset count block ≡ true
  between block covered no_first no_last = grind (arith, nat_tests, covered, no_first, no_last)

  no_edge : (block : ℕ) → covers first blocks block ≡ true → nat_eq block first ≡ false → nat_eq block last ≡ false → edge block ≡ false
  no_edge block covered no_first no_last =
      ap (λ (test : Bool). is_data (image.kind block) && not test) (between block covered no_first no_last) ∙ never (is_data (image.kind block))
    where
      never : (test : Bool) → (test && false) ≡ false
      never true = refl
      never false = refl

  abbrev image_byte : ℕ → ℕ → ℕ
  image_byte block k = byte_edited zero_edit (4096 * block + k) (image.byte (4096 * block + k))

  edge_byte : (block of k : ℕ) → block ≡ of → k < 4096 → slice_index (edge_bytes of) k ≡ image_byte block k
  edge_byte block of k same below =
      get-bytes_of (apply_edit zero_edit image) of 1 k (4096 * block + k) (omega (arith, below)) (omega (arith, same))

  second_byte : (block k : ℕ) → block ≡ last → k < 4096 → slice_index (edge_bytes first ++ edge_bytes last) (4096 + k) ≡ image_byte block k
  second_byte block k same below =
      let long : length (edge_bytes first) ≡ 4096 = length-bytes_of (apply_edit zero_edit image) first 1 in
      let at : 4096 + k - 4096 ≡ k = omega arith in
      get_or-append_right (edge_bytes first) (edge_bytes last) 4096 (4096 + k) 0 long (omega arith)
      ∙ ap (λ (n : ℕ). slice_index (edge_bytes last) n) at
      ∙ edge_byte block last k same below

  first_byte : (block k : ℕ) → block ≡ first → k < 4096 → slice_index (edge_bytes first ++ edge_bytes last) (0 + k) ≡ image_byte block k
  first_byte block k same below =
      let long : length (edge_bytes first) ≡ 4096 = length-bytes_of (apply_edit zero_edit image) first 1 in
      let at : 0 + k ≡ k = omega arith in
      ap (λ (n : ℕ). slice_index (edge_bytes first ++ edge_bytes last) n) at
      ∙ get_or_append_left (edge_bytes first) (edge_bytes last) 0 k (omega (arith, long, below))
      ∙ edge_byte block first k same below

  alone_byte : (block of k : ℕ) → block ≡ of → k < 4096 → slice_index (edge_bytes of) (0 + k) ≡ image_byte block k
  alone_byte block of k same below =
      let at : 0 + k ≡ k = omega arith in
      ap (λ (n : ℕ). slice_index (edge_bytes of) n) at ∙ edge_byte block of k same below

  abbrev zero_change : Bool → Bool → Change
  zero_change head tail = cleared_within first blocks given head tail (edge_bytes first) (edge_bytes last)

  abbrev Tells : Bool → Bool → ℕ → Type 0
  Tells head tail block = TellsBlock (slot block (zero_change head tail)) (data_of (zero_change head tail)) (edge block) (image_byte block)

  -- the slot of a block that is touched, by what is an edge and whether the block is the first and whether it is the last
  abbrev slot_by : Bool → Bool → Bool → Bool → Option ℕ
  slot_by true true here there = edge_slot Both here there
  slot_by true false here there = edge_slot Head here there
  slot_by false true here there = edge_slot Tail here there
  slot_by false false here there = None

  slot_covered : (head tail : Bool) (block : ℕ) → covers first blocks block ≡ true → slot block (zero_change head tail) ≡ slot_by head tail (nat_eq block first) (nat_eq block last)
  slot_covered true true block covered = ap (λ (test : Bool). if test then edge_slot Both (nat_eq block first) (nat_eq block last) else None) covered
  slot_covered true false block covered = ap (λ (test : Bool). if test then edge_slot Head (nat_eq block first) (nat_eq block last) else None) covered
  slot_covered false true block covered = ap (λ (test : Bool). if test then edge_slot Tail (nat_eq block first) (nat_eq block last) else None) covered
  slot_covered false false block covered = refl

  of_both : (a b : Bool) → (not a && b) ≡ true → b ≡ true
  of_both false b is = is
  of_both true b is = absurd (both_ways false refl is)

  -- the last block where it isn't the first
  own_tail : (block : ℕ) → nat_eq block first ≡ false → block ≡ last → (not (nat_eq last first) && edge last) ≡ false → edge block ≡ false
  own_tail block no_first same tail =
      let apart : nat_eq last first ≡ false = ap (λ (n : ℕ). nat_eq n first) (sym same) ∙ no_first in
      ap edge same ∙ sym (ap (λ (test : Bool). not test && edge last) apart) ∙ tail

  module _ (block : ℕ) (covered : covers first blocks block ≡ true) where
    tells_by : (head tail here there : Bool) → edge first ≡ head → (not (nat_eq last first) && edge last) ≡ tail → nat_eq block first ≡ here → nat_eq block last ≡ there
        → TellsBlock (slot_by head tail here there) (data_of (zero_change head tail)) (edge block) (image_byte block)
    tells_by true true true there head tail here at =
        let same = eqb-true block first here in
        (ap edge same ∙ head, λ k below. first_byte block k same below)
    tells_by true true false true head tail here at =
        let same = eqb-true block last at in
        (ap edge same ∙ of_both (nat_eq last first) (edge last) tail, λ k below. second_byte block k same below)
    tells_by true true false false head tail here at = no_edge block covered here at
    tells_by true false true there head tail here at =
        let same = eqb-true block first here in
        (ap edge same ∙ head, λ k below. alone_byte block first k same below)
    tells_by true false false true head tail here at = own_tail block here (eqb-true block last at) tail
    tells_by true false false false head tail here at = no_edge block covered here at
    tells_by false true here true head tail first_is at =
        let same = eqb-true block last at in
        (ap edge same ∙ of_both (nat_eq last first) (edge last) tail, λ k below. alone_byte block last k same below)
    tells_by false true true false head tail here at = let same = eqb-true block first here in ap edge same ∙ head
    tells_by false true false false head tail here at = no_edge block covered here at
    tells_by false false true there head tail here at = let same = eqb-true block first here in ap edge same ∙ head
    tells_by false false false true head tail here at = own_tail block here (eqb-true block last at) tail
    tells_by false false false false head tail here at = no_edge block covered here at

    abbrev head_is : Bool
    head_is = edge first

    abbrev tail_is : Bool
    tail_is = not (nat_eq last first) && edge last

    abbrev change : Change
    change = zero_change head_is tail_is

    tells : TellsBlock (slot block change) (data_of change) (edge block) (image_byte block)
    tells = subst (λ (at : Option ℕ). TellsBlock at (data_of change) (edge block) (image_byte block))
        (sym (slot_covered head_is tail_is block covered))
        (tells_by head_is tail_is (nat_eq block first) (nat_eq block last) refl refl refl refl)

    -- what a block that isn't data, or is covered wholly, has where no byte of the edit stands
    outside_zero : (k : ℕ) → k < 4096 → edge block ≡ false → covers offset count (4096 * block + k) ≡ false → image.byte (4096 * block + k) ≡ 0
    outside_zero k below no_edge_here no_byte = zero block k below (by_state (is_data (image.kind block)) (spans offset count block) no_edge_here not_spanned)
      where
        not_spanned : spans offset count block ≡ false
        not_spanned = grind (arith, nat_tests, below, no_byte)

        by_state : (stored spanned : Bool) → (stored && not spanned) ≡ false → spanned ≡ false → stored ≡ false
        by_state false spanned is not_spanned = refl
        by_state true false is not_spanned = is
        by_state true true is not_spanned = absurd (both_ways true not_spanned refl)

    zeroed : (k : ℕ) → k < 4096 → edge block ≡ false → 0 ≡ image_byte block k
    zeroed k below no_edge_here = by (covers offset count (4096 * block + k)) refl
      where
        by : (test : Bool) → covers offset count (4096 * block + k) ≡ test → 0 ≡ (if test then 0 else image.byte (4096 * block + k))
        by true is = refl
        by false is = sym (outside_zero k below no_edge_here is)

    byte_told : (at : Option ℕ) (k : ℕ) → k < 4096 → TellsBlock at (data_of change) (edge block) (image_byte block) → byte_in at (data_of change) k ≡ image_byte block k
    byte_told None k below told = zeroed k below told
    byte_told (Some at) k below told = told.1 k below

    touched_meets : meets offset count block ≡ true
    touched_meets = met offset count block some ∙ covered

    kind_told : (at : Option ℕ) → TellsBlock at (data_of change) (edge block) (image_byte block) → kind_in at given ≡ kind_edited zero_edit block (image.kind block)
    kind_told None told =
        sym (ap (λ (test : Bool). if test && not (edge block) then given else image.kind block) touched_meets
        ∙ ap (λ (test : Bool). if not test then given else image.kind block) told)
    kind_told (Some at) told =
        sym (ap (λ (test : Bool). if test && not (edge block) then given else image.kind block) touched_meets
        ∙ ap (λ (test : Bool). if not test then given else image.kind block) told.0
        ∙ data_is (image.kind block) told.0)
      where
        data_is : (kind : Kind) → (is_data kind && not (spans offset count block)) ≡ true → kind ≡ Data
        data_is Data is = refl
        data_is Zero is = absurd (both_ways false refl is)
        data_is Hole is = absurd (both_ways false refl is)

  touches_within : (head tail : Bool) (block : ℕ) → touches block (zero_change head tail) ≡ covers first blocks block
  touches_within true true block = refl
  touches_within true false block = refl
  touches_within false true block = refl
  touches_within false false block = refl

  kind_within : (head tail : Bool) → kind_given (zero_change head tail) ≡ given
  kind_within true true = refl
  kind_within true false = refl
  kind_within false true = refl
  kind_within false false = refl

  zero_byte : (place : ℕ) → SameByte (becomes zero_edit image) zero_edit image place
  zero_byte place = same_under (touches (place / 4096) (becomes zero_edit image)) _ _ _
      (λ inside.
      let block = place / 4096 in
      let covered : covers first blocks block ≡ true = sym (touches_within (edge first) (not (nat_eq last first) && edge last) block) ∙ inside in
      let at : 4096 * block + place % 4096 ≡ place = omega arith in
      byte_told block covered (slot block (becomes zero_edit image)) (place % 4096) (omega arith) (tells block covered)
      ∙ ap (λ (p : ℕ). byte_edited zero_edit p (image.byte p)) at)
      (λ outside.
      let covered : covers first blocks (place / 4096) ≡ false = sym (touches_within (edge first) (not (nat_eq last first) && edge last) (place / 4096)) ∙ outside in
      sym (ap (λ (test : Bool). if test then 0 else image.byte place) (untouched_place offset count place covered)))

  zero_kind : (block : ℕ) → SameKind (becomes zero_edit image) zero_edit image block
  zero_kind block = same_under (touches block (becomes zero_edit image)) _ _ _
      (λ inside.
      let covered : covers first blocks block ≡ true = sym (touches_within (edge first) (not (nat_eq last first) && edge last) block) ∙ inside in
      ap (λ (kind : Kind). kind_in (slot block (becomes zero_edit image)) kind) (kind_within (edge first) (not (nat_eq last first) && edge last))
      ∙ kind_told block covered (slot block (becomes zero_edit image)) (tells block covered))
      (λ outside.
      let covered : covers first blocks block ≡ false = sym (touches_within (edge first) (not (nat_eq last first) && edge last) block) ∙ outside in
      sym (ap (λ (test : Bool). if test && not (edge block) then given else image.kind block) (met offset count block some ∙ covered)))

  zero_becomes : apply (becomes zero_edit image) image ≡ apply_edit zero_edit image
  zero_becomes = same_image _ _ refl zero_byte zero_kind

-- The command that an edit becomes over an image makes of it what the edit does.
pub becomes_edit : (edit : ByteEdit) (image : Image) → 1 ≤ count_of edit → IsZeroElsewhere image → apply (becomes edit image) image ≡ apply_edit edit image
becomes_edit (BytesPut offset bytes) image some zero = put_becomes offset bytes image some
becomes_edit (BytesZeroed offset count kind) image some zero = zero_becomes offset count kind image some zero
becomes_edit (BytesTrimmed offset count) image some zero = trim_becomes offset count image

-- It is one that the image takes.
within_blocks : (offset count blocks : ℕ) → 1 ≤ count → offset + count ≤ 4096 * blocks → offset / 4096 + blocks_met offset count ≤ blocks
within_blocks offset count blocks some inside = omega (arith, some, inside)

few_blocks : (offset count : ℕ) → count < 2 ^ 32 → blocks_met offset count < 2 ^ 32
few_blocks offset count few = omega (arith, few)

module _ (offset count blocks : ℕ) (kind : Kind) (some : 1 ≤ count) (inside : offset + count ≤ 4096 * blocks) (few : count < 2 ^ 32) (cleared : IsCleared kind) (numbered : blocks ≤ 2 ^ 64) where
  edge_number : offset / 4096 + blocks_met offset count ≤ 2 ^ 64
  edge_number = omega (arith, within_blocks offset count blocks some inside, numbered)

  cleared_is : (head tail : Bool) (first_bytes last_bytes : List ℕ) → length first_bytes ≡ 4096 → length last_bytes ≡ 4096
      → (tail ≡ true → nat_eq (last_of (offset / 4096) (blocks_met offset count)) (offset / 4096) ≡ false)
      → IsChange blocks (cleared_within (offset / 4096) (blocks_met offset count) kind head tail first_bytes last_bytes)
  cleared_is true true first_bytes last_bytes long also_long apart =
      (two (apart refl), within_blocks offset count blocks some inside, few_blocks offset count few, cleared, omega (arith, length-append first_bytes last_bytes, long, also_long), edge_number)
    where
      two : nat_eq (last_of (offset / 4096) (blocks_met offset count)) (offset / 4096) ≡ false → 2 ≤ blocks_met offset count
      two is = grind (arith, nat_tests, is, some)
  cleared_is true false first_bytes last_bytes long also_long apart =
      (omega (arith, some), within_blocks offset count blocks some inside, few_blocks offset count few, cleared, omega (arith, long), edge_number)
  cleared_is false true first_bytes last_bytes long also_long apart =
      (two (apart refl), within_blocks offset count blocks some inside, few_blocks offset count few, cleared, omega (arith, also_long), edge_number)
    where
      two : nat_eq (last_of (offset / 4096) (blocks_met offset count)) (offset / 4096) ≡ false → 2 ≤ blocks_met offset count
      two is = grind (arith, nat_tests, is, some)
  cleared_is false false first_bytes last_bytes long also_long apart =
      (λ is. omega (arith, some), within_blocks offset count blocks some inside, few_blocks offset count few, cleared)

pub becomes_change : (edit : ByteEdit) (image : Image) → image.blocks ≤ 2 ^ 64 → IsEdit image.blocks edit → IsChange image.blocks (becomes edit image)
becomes_change (BytesPut offset bytes) image numbered is =
    let long = length-bytes_of (apply_edit (BytesPut offset bytes) image) (offset / 4096) (blocks_met offset (length bytes)) in
    (blocks_met offset (length bytes), long, omega (arith, is.some), omega (arith, is.kind), within_blocks offset (length bytes) image.blocks is.some is.inside)
becomes_change (BytesZeroed offset count kind) image numbered is =
    let after = apply_edit (BytesZeroed offset count kind) image in
    let first = offset / 4096 in
    let last = last_of first (blocks_met offset count) in
    cleared_is offset count image.blocks kind is.some is.inside is.kind.0 is.kind.1 numbered
    (is_partial_data offset count first (image.kind first))
    (not (nat_eq last first) && is_partial_data offset count last (image.kind last))
    (bytes_of after first 1) (bytes_of after last 1)
    (length-bytes_of after first 1) (length-bytes_of after last 1)
    (λ tail. not-true (nat_eq last first) (and_parts _ _ tail).0)
becomes_change (BytesTrimmed offset count) image numbered is = by_count (nat_lt (first_spanned offset) (end_spanned offset count)) refl
  where
    by_count : (test : Bool) → nat_lt (first_spanned offset) (end_spanned offset count) ≡ test
        → IsChange image.blocks (if test then Cleared (first_spanned offset) (end_spanned offset count - first_spanned offset) Hole else Cleared (offset / 4096) 0 Hole)
    by_count true some =
        let less = ltb-true (first_spanned offset) (end_spanned offset count) some in
        (λ zero. cc, omega (arith, less, is.inside), omega (arith, less, is.kind), tt)
    by_count false none = (λ zero. cc, omega (arith, is.inside), omega arith, tt)

-- And what isn't data stays zero.
module _ (offset count block k : ℕ) (below : k < 4096) where
  unmet_place : meets offset count block ≡ false → covers offset count (4096 * block + k) ≡ false
  unmet_place is = grind (arith, nat_tests, below, is)

  unspanned : covers offset count (4096 * block + k) ≡ false → spans offset count block ≡ false
  unspanned is = grind (arith, nat_tests, below, is)

pub stays_zero : (edit : ByteEdit) (image : Image) → IsZeroElsewhere image → IsZeroElsewhere (apply_edit edit image)
stays_zero (BytesPut offset bytes) image zero block k below no_data = by_meeting (meets offset (length bytes) block) refl no_data
  where
    by_meeting : (test : Bool) → meets offset (length bytes) block ≡ test → is_data (if test then Data else image.kind block) ≡ false
        → byte_edited (BytesPut offset bytes) (4096 * block + k) (image.byte (4096 * block + k)) ≡ 0
    by_meeting true met not_data = absurd (both_ways true not_data refl)
    by_meeting false unmet not_data =
        ap (λ (test : Bool). if test then slice_index bytes (4096 * block + k - offset) else image.byte (4096 * block + k)) (unmet_place offset (length bytes) block k below unmet)
        ∙ zero block k below not_data
stays_zero (BytesZeroed offset count given) image zero block k below no_data = by_place (covers offset count (4096 * block + k)) refl
  where
    by_old : (stored spanned : Bool) → is_data (image.kind block) ≡ stored → spans offset count block ≡ spanned → spanned ≡ false
        → is_data (if meets offset count block && not (stored && not spanned) then given else image.kind block) ≡ false → stored ≡ false
    by_old false spanned stored_is spanned_is none told = refl
    by_old true true stored_is spanned_is none told = absurd (both_ways true none refl)
    by_old true false stored_is spanned_is none told = sym stored_is ∙ sym (kept (meets offset count block)) ∙ told
      where
        kept : (test : Bool) → is_data (if test && false then given else image.kind block) ≡ is_data (image.kind block)
        kept true = refl
        kept false = refl

    by_place : (test : Bool) → covers offset count (4096 * block + k) ≡ test → (if test then 0 else image.byte (4096 * block + k)) ≡ 0
    by_place true is = refl
    by_place false is = zero block k below (by_old (is_data (image.kind block)) (spans offset count block) refl refl (unspanned offset count block k below is) no_data)
stays_zero (BytesTrimmed offset count) image zero block k below no_data = by_spanning (spans offset count block) refl no_data
  where
    by_spanning : (test : Bool) → spans offset count block ≡ test → is_data (if test then Hole else image.kind block) ≡ false
        → (if spans offset count ((4096 * block + k) / 4096) then 0 else image.byte (4096 * block + k)) ≡ 0
    by_spanning true is not_data =
        ap (λ (test : Bool). if test then 0 else image.byte (4096 * block + k))
        (let same : (4096 * block + k) / 4096 ≡ block = omega (arith, below) in ap (spans offset count) same ∙ is)
    by_spanning false is not_data =
        ap (λ (test : Bool). if test then 0 else image.byte (4096 * block + k))
        (let same : (4096 * block + k) / 4096 ≡ block = omega (arith, below) in ap (spans offset count) same ∙ is)
        ∙ zero block k below not_data
