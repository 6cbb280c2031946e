-- What map and data hold while an image is made, block after block.
use Rattle.std.proofs.Common.{◌≡◌, inl, inr, ⊎_elim, ℕ, ◌+◌, ◌-◌, ◌*◌, ◌/◌, ◌%◌, ◌≤◌, ◌<◌, ◌⊎◌, Bool, true, false, if◌then◌else◌, List, length, slice_index, replicate, take, drop, subst, sym, ◌∙◌, ap, refl, arith, rules}
use Rattle.std.proofs.lemmas.Bool.{cases_lt}
use Rattle.std.proofs.lemmas.Bool.Decides.{nat_tests}
use Rattle.std.proofs.lemmas.List.{get_or-replicate, get_or_past, length-replicate, places}
use Rattle.alloc_map.specs.Codes.{state_at}
use Rattle.checkpoint.specs.Format.{AreClosed}
use Rattle.device_image.specs.Stands.{stored_image, is_data}
use Rattle.disk_model.specs.Disk.{State, InRange, IsWritten}
use Rattle.image_model.specs.Image.{Image, covers}
use Rattle.image_model.specs.Patched.{patched}
use Rattle.image_model.specs.declared.command.Kind.{Kind}
use Rattle.image_model.specs.declared.command.Kind.TheVariants.{Data, Hole}
use Rattle.image_model.specs.declared.geometry.Geometry.{Geometry}
use Rattle.image_model.specs.laws.Positions.{filled_at}
use Rattle.image_transfer.specs.Import.{IsImageOf, IsZeroBlock}
use Rattle.image_transfer.specs.inner.Import.{AreBytesOf, AreSomeIn, AreZeroBlocks, IsBlockFilled, IsFilled}
use Rattle.image_transfer.specs.inner.Zeroes.{AreZeroes}
use Rattle.regions.specs.Layout.{block_at}

-- at first all are holes
pub none_filled : (byte : ℕ → ℕ) (geometry : Geometry) (content : List ℕ) (states : List Kind) → states ≡ replicate geometry.blocks Hole → IsFilled byte geometry content states 0
none_filled byte geometry content states are = record {
  each = λ block below. absurd (omega (arith, below));
  left = λ block from. ap (λ (list : List Kind). state_at list block) are ∙ hole_at geometry.blocks block;
}
  where
    hole_at : (blocks block : ℕ) → state_at (replicate blocks Hole) block ≡ Hole
    hole_at blocks block = ⊎_elim
        (λ below. get_or-replicate blocks block Hole Hole below)
        (λ past. get_or_past (replicate blocks Hole) block Hole (omega (arith, past, length-replicate blocks Hole)))
        (cases_lt block blocks)

-- blocks that are all zero stay holes
pub passed : (byte : ℕ → ℕ) (geometry : Geometry) (content : List ℕ) (states : List Kind) (done more : ℕ) → done ≤ more → ((block : ℕ) → done ≤ block → block < more → IsZeroBlock byte block)
    → IsFilled byte geometry content states done → IsFilled byte geometry content states more
passed byte geometry content states done more order zeroes filled = record {
  each = λ block below. ⊎_elim (λ early. filled.each block early) (λ late. inl (zeroes block late below, filled.left block late)) (cases_lt block done);
  left = λ block from. filled.left block (omega (arith, from, order));
}

-- bytes that a source passed over, as blocks
pub passed_zeroes : (byte other : ℕ → ℕ) (first count : ℕ) → byte ≡ other → ((k : ℕ) → k < 4096 * count → byte (4096 * first + k) ≡ 0) → (block : ℕ) → first ≤ block → block < first + count → IsZeroBlock other block
passed_zeroes byte other first count same zeroes block low high offset below =
    let at : 4096 * first + (4096 * (block - first) + offset) ≡ 4096 * block + offset = omega (arith, low) in
    ap (λ (f : ℕ → ℕ). f (4096 * block + offset)) (sym same) ∙ ap byte (sym at) ∙ zeroes (4096 * (block - first) + offset) (omega (arith, low, high, below))

-- a block of the buffer is all zero where that of the bytes is
module _ (byte : ℕ → ℕ) (first : ℕ) (bytes : List ℕ) (are : AreBytesOf byte first bytes) where
  same_byte : (block offset : ℕ) → 4096 * block + 4096 ≤ length bytes → offset < 4096 → slice_index bytes (4096 * block + offset) ≡ byte (4096 * (first + block) + offset)
  same_byte block offset inside below =
      let at : 4096 * first + (4096 * block + offset) ≡ 4096 * (first + block) + offset = omega arith in
      are (4096 * block + offset) (omega (arith, inside, below)) ∙ ap byte at

  pub zero_there : (block : ℕ) → 4096 * block + 4096 ≤ length bytes → AreZeroes bytes (4096 * block) 4096 → IsZeroBlock byte (first + block)
  zero_there block inside zeroes = λ offset below. sym (same_byte block offset inside below) ∙ zeroes offset below

  pub some_there : (block : ℕ) → 4096 * block + 4096 ≤ length bytes → (AreZeroes bytes (4096 * block) 4096 → ⊥) → IsZeroBlock byte (first + block) → ⊥
  some_there block inside some zeroes = some (λ k below. same_byte block k inside below ∙ zeroes k below)

  pub zero_blocks : (from to : ℕ) → 4096 * to ≤ length bytes → AreZeroBlocks bytes from to → (block : ℕ) → first + from ≤ block → block < first + to → IsZeroBlock byte block
  zero_blocks from to inside zeroes block low high =
      let at : first + (block - first) ≡ block = omega (arith, low) in
      subst (IsZeroBlock byte) at (zero_there (block - first) (omega (arith, high, low, inside)) (zeroes (block - first) (omega (arith, low)) (omega (arith, high, low))))

-- a run of blocks was written, and noted as data
module _ (byte : ℕ → ℕ) (geometry : Geometry) (first from to : ℕ) (bytes part : List ℕ) (are : AreBytesOf byte first bytes) (inside : 4096 * to ≤ length bytes) (order : from ≤ to)
    (some : AreSomeIn bytes from to) (part_is : (k : ℕ) → k < length part → slice_index part k ≡ slice_index bytes (4096 * from + k)) (long : length part ≡ 4096 * (to - from))
    (before after : State) (closed : AreClosed before) (states : List Kind) (fits : first + to ≤ length states) (place : ℕ) (place_is : place ≡ block_at geometry 0 + 4096 * (first + from))
    (written : IsWritten before place part after) where
  abbrev pub states_after : List Kind
  states_after = patched states (first + from) (replicate (to - from) Data)

  -- the states after it
  noted : (block : ℕ) → state_at states_after block ≡ (if covers (first + from) (to - from) block then Data else state_at states block)
  noted block = filled_at states (first + from) (to - from) Data Hole (omega (arith, fits, order)) block

  in_run : (block : ℕ) → first + from ≤ block → block < first + to → state_at states_after block ≡ Data
  in_run block low high = noted block ∙ covered (covers (first + from) (to - from) block) (grind (arith, nat_tests, low, high, order))
    where
      covered : (test : Bool) → test ≡ true → (if test then Data else state_at states block) ≡ Data
      covered true is = refl
      covered false is = cc

  outside_run : (block : ℕ) → (first + from ≤ block → block < first + to → ⊥) → state_at states_after block ≡ state_at states block
  outside_run block out = noted block ∙ uncovered (covers (first + from) (to - from) block) (grind (arith, nat_tests, out, order))
    where
      uncovered : (test : Bool) → test ≡ false → (if test then Data else state_at states block) ≡ state_at states block
      uncovered true is = cc
      uncovered false is = refl

  run_byte : (block offset : ℕ) → first + from ≤ block → block < first + to → offset < 4096 → slice_index after.seen (block_at geometry 0 + (4096 * block + offset)) ≡ byte (4096 * block + offset)
  run_byte block offset low high below =
      let k : ℕ = 4096 * (block - (first + from)) + offset in
      let at : block_at geometry 0 + (4096 * block + offset) ≡ place + (4096 * (block - (first + from)) + offset) = omega (arith, low, place_is) in
      let short : 4096 * (block - (first + from)) + offset < length part = omega (arith, long, low, high, below, order) in
      let there : 4096 * from + (4096 * (block - (first + from)) + offset) ≡ 4096 * (block - first) + offset = omega (arith, low) in
      let home : 4096 * first + (4096 * (block - first) + offset) ≡ 4096 * block + offset = omega (arith, low) in
      ap (slice_index after.seen) at
      ∙ written.written (4096 * (block - (first + from)) + offset) short (closed.steady _)
      ∙ part_is (4096 * (block - (first + from)) + offset) short
      ∙ ap (slice_index bytes) there
      ∙ are (4096 * (block - first) + offset) (omega (arith, inside, low, high, below))
      ∙ ap byte home

  old_byte : (block offset : ℕ) → block < first + from → offset < 4096 → slice_index after.seen (block_at geometry 0 + (4096 * block + offset)) ≡ slice_index before.seen (block_at geometry 0 + (4096 * block + offset))
  old_byte block offset early below = written.others _ (λ within. omega (arith, within.0, place_is, early, below)) (closed.steady _)

  kept_block : (block : ℕ) → block < first + from → IsBlockFilled byte geometry before.seen states block → IsBlockFilled byte geometry after.seen states_after block
  kept_block block early filled = ⊎_elim
      (λ hole. inl (hole.0, outside_run block (λ low high. omega (arith, low, early)) ∙ hole.1))
      (λ written. inr (written.0, outside_run block (λ low high. omega (arith, low, early)) ∙ written.1, λ offset below. old_byte block offset early below ∙ written.2 offset below))
      filled

  pub run_filled : IsFilled byte geometry before.seen states (first + from) → IsFilled byte geometry after.seen states_after (first + to)
  run_filled filled = record {
    each = λ block below. ⊎_elim
        (λ early. kept_block block early (filled.each block early))
        (λ late.
        let at : first + (block - first) ≡ block = omega (arith, late) in
        let full : IsZeroBlock byte (first + (block - first)) → ⊥ = some_there byte first bytes are (block - first) (omega (arith, inside, below, late)) (some (block - first) (omega (arith, late)) (omega (arith, below, late))) in
        inr (subst (λ (b : ℕ). IsZeroBlock byte b → ⊥) at full, in_run block late below, λ offset small. run_byte block offset late below small))
        (cases_lt block (first + from));
    left = λ block behind. outside_run block (λ low high. omega (arith, high, behind)) ∙ filled.left block (omega (arith, behind, order));
  }

-- once all blocks are filled, map and data are the image of the bytes
data_shown : (kind : Kind) (byte : ℕ) → kind ≡ Data → (if is_data kind then byte else 0) ≡ byte
data_shown kind byte is = ap (λ (k : Kind). if is_data k then byte else 0) is

hole_shown : (kind : Kind) (byte : ℕ) → kind ≡ Hole → (if is_data kind then byte else 0) ≡ 0
hole_shown kind byte is = ap (λ (k : Kind). if is_data k then byte else 0) is

pub filled_image : (byte : ℕ → ℕ) (geometry : Geometry) (content : List ℕ) (states : List Kind) → IsFilled byte geometry content states geometry.blocks → IsImageOf byte geometry.blocks (stored_image content geometry states)
filled_image byte geometry content states filled = record {
  blocks = refl;
  bytes = λ place below.
      let block = place / 4096 in
      let at : 4096 * (place / 4096) + place % 4096 ≡ place = omega arith in
      let small : place % 4096 < 4096 = omega arith in
      let inside : place / 4096 < geometry.blocks = omega (arith, below) in
      ⊎_elim
      (λ hole. hole_shown (state_at states (place / 4096)) _ hole.1 ∙ sym (hole.0 (place % 4096) small) ∙ ap byte at)
      (λ written. data_shown (state_at states (place / 4096)) _ written.1 ∙ ap (λ (p : ℕ). slice_index content (block_at geometry 0 + p)) (sym at) ∙ written.2 (place % 4096) small ∙ ap byte at)
      (filled.each (place / 4096) inside);
  holes = λ block below zeroes. ⊎_elim (λ hole. hole.1) (λ written. absurd (written.0 zeroes)) (filled.each block below);
  written = λ block below some. ⊎_elim (λ hole. absurd (some hole.0)) (λ written. written.1) (filled.each block below);
  bytes_behind = λ place behind. hole_shown (state_at states (place / 4096)) _ (filled.left (place / 4096) (omega (arith, behind)));
  holes_behind = λ block behind. filled.left block behind;
}

-- a part of a buffer
pub part_at : (bytes : List ℕ) (from count k : ℕ) → k < count → slice_index (take count (drop from bytes)) k ≡ slice_index bytes (from + k)
part_at bytes from count k below = search (rules, places)
