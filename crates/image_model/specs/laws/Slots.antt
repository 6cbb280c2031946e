-- Which blocks a change writes, and what it leaves in a block.
use Rattle.std.proofs.Common.{◌≡◌, ℕ, ◌+◌, ◌-◌, ◌*◌, ◌/◌, ◌%◌, ◌<◌, Bool, true, false, ◌&&◌, nat_eq, if◌then◌else◌, Option, Some, None, ap, ◌∙◌, refl, arith}
use Rattle.std.specs.Option.{is_some}
use Rattle.std.proofs.lemmas.Bool.{and_parts}
use Rattle.image_model.specs.Change.{Change, Written, Cleared, Edged}
use Rattle.image_model.specs.Image.{Image, apply, byte_after, byte_in, covers, data_of, edge_slot, last_of, slot, touches, writes}

both_where : (test : Bool) (slot : Option ℕ) → (test && is_some (if test then slot else None)) ≡ is_some (if test then slot else None)
both_where true slot = refl
both_where false slot = refl

never : (test : Bool) → (test && false) ≡ false
never true = refl
never false = refl

-- a change touches the blocks that it writes
pub touched_and_written : (block : ℕ) (change : Change) → (touches block change && writes block change) ≡ writes block change
touched_and_written block (Written first bytes) = both_where (touches block (Written first bytes)) (Some (4096 * (block - first)))
touched_and_written block (Cleared first blocks kind) = never (covers first blocks block)
touched_and_written block (Edged first blocks kind edges bytes) =
    both_where (covers first blocks block) (edge_slot edges (nat_eq block first) (nat_eq block (last_of first blocks)))

pub writes_touches : (block : ℕ) (change : Change) → writes block change ≡ true → touches block change ≡ true
writes_touches block change is = (and_parts (touches block change) (writes block change) (touched_and_written block change ∙ is)).0

-- the byte after a change, by the block and the place in it
pub byte-apply : (change : Change) (image : Image) (block offset : ℕ) → offset < 4096
    → (apply change image).byte (4096 * block + offset) ≡ byte_after block offset change (image.byte (4096 * block + offset))
byte-apply change image block offset small =
    let same_block : (4096 * block + offset) / 4096 ≡ block = omega (arith, small) in
    let same_offset : (4096 * block + offset) % 4096 ≡ offset = omega (arith, small) in
    ap (λ (b : ℕ). byte_after b ((4096 * block + offset) % 4096) change (image.byte (4096 * block + offset))) same_block
    ∙ ap (λ (k : ℕ). byte_after block k change (image.byte (4096 * block + offset))) same_offset

-- what a change leaves in a block that it doesn't touch, in one that it writes, and in another
module _ (change : Change) (block offset byte : ℕ) where
  pub untouched_byte : touches block change ≡ false → byte_after block offset change byte ≡ byte
  untouched_byte is = ap (λ (test : Bool). if test then byte_in (slot block change) (data_of change) offset else byte) is

  pub touched_byte : touches block change ≡ true → byte_after block offset change byte ≡ byte_in (slot block change) (data_of change) offset
  touched_byte is = ap (λ (test : Bool). if test then byte_in (slot block change) (data_of change) offset else byte) is
