-- which edits take old bytes
use Rattle.std.proofs.Common.{◌≡◌, ◌⊎◌, inl, inr, ℕ, ◌+◌, ◌*◌, ◌/◌, ◌≤◌, ◌<◌, ◌&&◌, ◌||◌, Bool, true, false, not, max, min, sym, ◌∙◌, ap, refl, arith}
use Rattle.std.proofs.lemmas.Bool.{cases_eq, le-leb, ltb-true}
use Rattle.image_model.specs.Edit.{blocks_met, is_partial_data, meets, spans}
use Rattle.image_model.specs.Image.{Image, is_data, last_of}
use Rattle.image_model.specs.declared.command.Kind.{Kind}
use Rattle.image_model.specs.declared.command.Kind.TheVariants.{Data}
use Rattle.export_model.specs.Serve.{covers_data_in_part}

-- a block that bytes touch and don't cover is the first that they touch, or the last
edge_block : (offset count block : ℕ) → 1 ≤ count → meets offset count block ≡ true → spans offset count block ≡ false
    → (block ≡ offset / 4096) ⊎ (block ≡ last_of (offset / 4096) (blocks_met offset count))
edge_block offset count block some met part = by_first (cases_eq block (offset / 4096))
  where
    within : max offset (4096 * block) < min (offset + count) (4096 * block + 4096)
    within = ltb-true (max offset (4096 * block)) (min (offset + count) (4096 * block + 4096)) met

    not_spanned : offset ≤ 4096 * block → 4096 * block + 4096 ≤ offset + count → ⊥
    not_spanned front behind = true_unlike (sym both ∙ part)
      where
        both : spans offset count block ≡ true
        both = λ i. le-leb offset (4096 * block) front i && le-leb (4096 * block + 4096) (offset + count) behind i

        true_unlike : true ≡ false → ⊥
        true_unlike is = cc

    by_first : (block ≡ offset / 4096) ⊎ (block ≡ offset / 4096 → ⊥) → (block ≡ offset / 4096) ⊎ (block ≡ last_of (offset / 4096) (blocks_met offset count))
    by_first (inl is) = inl is
    by_first (inr other) =
        let behind : offset ≤ 4096 * block = omega (arith, within, other) in
        inr (omega (arith, within, other, not_spanned behind))

-- where it is data, the edit takes old bytes
pub takes_there : (offset count block : ℕ) (image : Image) → 1 ≤ count → meets offset count block ≡ true → spans offset count block ≡ false → image.kind block ≡ Data
    → covers_data_in_part offset count image ≡ true
takes_there offset count block image some met part is_there = by_place (edge_block offset count block some met part)
  where
    here : is_partial_data offset count block (image.kind block) ≡ true
    here = ap (λ (k : Kind). is_data k && not (spans offset count block)) is_there ∙ ap (λ (b : Bool). true && not b) part

    by_place : (block ≡ offset / 4096) ⊎ (block ≡ last_of (offset / 4096) (blocks_met offset count)) → covers_data_in_part offset count image ≡ true
    by_place (inl is) = ap (λ (b : Bool). b || is_partial_data offset count (last_of (offset / 4096) (blocks_met offset count)) (image.kind (last_of (offset / 4096) (blocks_met offset count))))
        (ap (λ (n : ℕ). is_partial_data offset count n (image.kind n)) (sym is) ∙ here)
    by_place (inr is) = or_right (is_partial_data offset count (offset / 4096) (image.kind (offset / 4096))) _
        (ap (λ (n : ℕ). is_partial_data offset count n (image.kind n)) (sym is) ∙ here)
      where
        or_right : (a b : Bool) → b ≡ true → a || b ≡ true
        or_right true b is = refl
        or_right false b is = is
