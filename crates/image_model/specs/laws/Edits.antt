-- What an edit does to blocks.
use Rattle.std.proofs.Common.{◌≡◌, ℕ, ◌+◌, ◌-◌, ◌*◌, ◌/◌, ◌≤◌, ◌<◌, Bool, true, false, ◌&&◌, if◌then◌else◌, length, ap, refl, arith}
use Rattle.std.proofs.lemmas.Bool.Decides.{nat_tests}
use Rattle.image_model.specs.declared.command.Kind.TheVariants.{Data, Hole}
use Rattle.image_model.specs.Image.{covers}
use Rattle.image_model.specs.Edit.{ByteEdit, BytesPut, BytesZeroed, BytesTrimmed, blocks_met, count_of, end_spanned, first_spanned, kind_edited, meets, offset_of, spans}

-- bytes meet no block after them
pub behind_edit : (offset count block : ℕ) → offset + count ≤ 4096 * block → meets offset count block ≡ false
behind_edit offset count block behind = grind (arith, nat_tests)

pub kind_behind : (edit : ByteEdit) (block : ℕ) → offset_of edit + count_of edit ≤ 4096 * block → kind_edited edit block Hole ≡ Hole
kind_behind (BytesPut offset bytes) block behind = ap (λ (test : Bool). if test then Data else Hole) (behind_edit offset (length bytes) block behind)
kind_behind (BytesZeroed offset count kind) block behind =
    ap (λ (test : Bool). if test && true then kind else Hole) (behind_edit offset count block behind)
kind_behind (BytesTrimmed offset count) block behind = same (spans offset count block)
  where
    same : (test : Bool) → (if test then Hole else Hole) ≡ Hole
    same true = refl
    same false = refl

-- the blocks that bytes meet, those that they span, and where a byte stands, as ranges of blocks
pub met : (offset count block : ℕ) → 1 ≤ count → meets offset count block ≡ covers (offset / 4096) (blocks_met offset count) block
met offset count block some = grind (arith, nat_tests)

pub spanned : (offset count block : ℕ) → first_spanned offset < end_spanned offset count
    → spans offset count block ≡ covers (first_spanned offset) (end_spanned offset count - first_spanned offset) block
spanned offset count block some = grind (arith, nat_tests)

pub none_spanned : (offset count block : ℕ) → end_spanned offset count ≤ first_spanned offset → spans offset count block ≡ false
none_spanned offset count block none = grind (arith, nat_tests)
