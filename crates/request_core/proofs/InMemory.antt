-- bytes that are in memory
use Rattle.std.proofs.Common.{◌≡◌, ◌≢◌, ◌++◌, ◌+◌, ◌-◌, ◌*◌, ◌/◌, ◌%◌, ◌<◌, ◌≤◌, arith, rules, ℕ, zero, suc, Option, None, Some, List, drop, take, get_or, length, length-drop, replicate, sym, ◌∙◌, ap, subst, refl}
use Rattle.std.proofs.lemmas.List.{length-take-le, places, take_at}
use Rattle.alloc_map.specs.Codes.{state_at}
use Rattle.image_model.specs.Edit.{blocks_met}
use Rattle.image_model.specs.declared.command.Kind.{Kind}
use Rattle.image_model.specs.declared.command.Kind.TheVariants.{Data, Zero, Hole}
use Rattle.shared_cache.specs.Blocks.{bytes_of}
use Rattle.shared_cache.specs.Cache.{CacheState, LacksBytes, bytes_for, bytes_seen}
use Rattle.shared_cache.specs.laws.Views.{missing_seen}

-- what isn't data is zero in memory
pub seen_zero : (cache : CacheState) (block : ℕ) → state_at cache.states block ≢ Data → bytes_seen cache block ≡ Some (replicate 4096 0)
seen_zero cache block other = by_kind (state_at cache.states block) (bytes_of block cache.blocks) other
  where
    by_kind : (kind : Kind) (held : Option (List ℕ)) → kind ≢ Data → bytes_for kind held ≡ Some (replicate 4096 0)
    by_kind Data held other = absurd (other refl)
    by_kind Zero held other = refl
    by_kind Hole held other = refl

-- a block that isn't in memory is one that these lack
pub lacks_at : (cache : CacheState) (first count block : ℕ) → block < count → bytes_seen cache (first + block) ≡ None → LacksBytes cache first count
lacks_at cache first count block below none =
    let is = missing_seen cache (first + block) none in
    (block, below, is.0, is.1)

pub zero_there : (n k : ℕ) → let none : ℕ = 0 in get_or (replicate n none) k none ≡ none
zero_there zero k = refl
zero_there (suc n) zero = refl
zero_there (suc n) (suc k) = zero_there n k

-- a slice that was written over is written back whole
pub whole : (count : ℕ) (into items : List ℕ) → length into ≡ count → take count (into ++ drop (length into) items) ≡ into
whole count into items size = take_at into (drop (length into) items) count size

-- a byte of some of the bytes of blocks
pub byte_cut : (skip count k : ℕ) (bytes : List ℕ) → k < count → skip + count ≤ length bytes → get_or (take count (drop skip bytes)) k 0 ≡ get_or bytes (skip + k) 0
byte_cut skip count k bytes below within = search (rules, places)

-- The place of a byte among those of the blocks from that of the offset on: which of the blocks it is in, and where in it.
pub record IsAt (offset k j r : ℕ) : Type 0 where
  pub block : offset / 4096 + j ≡ (offset + k) / 4096
  pub within : r ≡ (offset + k) % 4096
  pub place : offset % 4096 + k ≡ 4096 * j + r
  pub inside : r < 4096

pub at_place : (offset k : ℕ) → IsAt offset k ((offset + k) / 4096 - offset / 4096) ((offset + k) % 4096)
at_place offset k = record { block = omega arith; within = refl; place = omega arith; inside = omega arith }

-- the block of the byte after the offset, counted from the offset's, and its place there
abbrev pub block_from : ℕ → ℕ → ℕ
block_from offset k = (offset + k) / 4096 - offset / 4096

-- Bytes that were read of whole blocks, and the part of them that begins at the offset.
module _ (offset count : ℕ) (into items : List ℕ) (part : items ≡ take count (drop (offset % 4096) into)) (size : length into ≡ 4096 * blocks_met offset count) where
  pub part_size : length items ≡ count
  part_size =
      let left = length-drop (offset % 4096) into in
      ap length part ∙ length-take-le count (drop (offset % 4096) into) (omega (arith, left, size))

  pub part_at : (k : ℕ) → k < count → (get_or items k 0 ≡ get_or into (4096 * block_from offset k + (offset + k) % 4096) 0) × (4096 * block_from offset k < length into)
  part_at k below =
      let at = at_place offset k in
      let place = at.place in (
        ap (λ (l : List ℕ). get_or l k 0) part ∙ byte_cut (offset % 4096) count k into below (omega (arith, size)) ∙ ap (λ (n : ℕ). get_or into n 0) place,
        omega (arith, size, below, place),
      )

  -- what isn't data is zero, where the bytes of blocks are those in memory
  pub part_zero : (cache : CacheState)
      → ((j k : ℕ) (bytes : List ℕ) → 4096 * j < length into → k < 4096 → bytes_seen cache (offset / 4096 + j) ≡ Some bytes → get_or into (4096 * j + k) 0 ≡ get_or bytes k 0)
      → (k : ℕ) → k < count → state_at cache.states ((offset + k) / 4096) ≢ Data → get_or items k 0 ≡ 0
  part_zero cache in_memory k below other =
      let at = at_place offset k in
      let here = part_at k below in
      here.0 ∙ in_memory (block_from offset k) ((offset + k) % 4096) (replicate 4096 0) here.1 at.inside
      (seen_zero cache (offset / 4096 + block_from offset k) (λ is. other (ap (state_at cache.states) (sym at.block) ∙ is)))
      ∙ zero_there 4096 ((offset + k) % 4096)

  -- what is said of each byte of a block is said of each byte of the part
  pub part_holds : (P : ℕ → ℕ → ℕ → Type 0)
      → ((j k : ℕ) → 4096 * j < length into → k < 4096 → P (offset / 4096 + j) k (get_or into (4096 * j + k) 0))
      → (k : ℕ) → k < count → P ((offset + k) / 4096) ((offset + k) % 4096) (get_or items k 0)
  part_holds P all k below =
      let at = at_place offset k in
      let here = part_at k below in
      subst (λ (b : ℕ). P b ((offset + k) % 4096) (get_or items k 0)) at.block
      (subst (λ (x : ℕ). P (offset / 4096 + block_from offset k) ((offset + k) % 4096) x) (sym here.0)
      (all (block_from offset k) ((offset + k) % 4096) here.1 at.inside))
