-- what keeping blocks that were read makes of a cache
use Rattle.std.proofs.Common.{◌≡◌, ◌≢◌, inl, inr, ◌<◌, ◌+◌, ◌&&◌, ◌∙◌, ap, refl, sym, arith, ℕ, zero, suc, ◌==◌, not, Bool, true, false, if◌then◌else◌, List, [], ◌∷◌, ◌++◌, length, None}
use Rattle.std.proofs.lemmas.Bool.{cases_Bool}
use Rattle.std.proofs.lemmas.Bool.Decides.{eqb_tells}
use Rattle.alloc_map.specs.Codes.{state_at}
use Rattle.image_model.specs.declared.command.Kind.{Kind}
use Rattle.image_model.specs.declared.command.Kind.TheVariants.{Data, Zero, Hole}
use Rattle.shared_cache.specs.Blocks.{CleanBlock, HasNoFrame, available_frames, is_cached, taken, with_fill}
use Rattle.shared_cache.specs.Cache.{CacheState, bytes_seen}
use Rattle.shared_cache.specs.laws.Views.{seen_missing}
use Rattle.order_book.specs.Reading.{block_of, is_data, with_all_kept, with_kept}

none_left : (n : ℕ) → not (n == 0) ≡ false → n ≡ 0
none_left n is = elim (eqb_tells n 0) [
  | inl p ↦ p.1
  | inr p ↦ let other = sym (ap not p.0) ∙ is in cc
]

no_list : (list : List CleanBlock) → length list ≡ 0 → list ≡ []
no_list [] is = refl
no_list (held ∷ list) is = absurd (omega (arith, is))

module _ (block : ℕ) (bytes : List ℕ) (cache : CacheState) where
  abbrev pub filled : CacheState
  filled = record { states = cache.states; blocks = with_fill block bytes cache.blocks }

  kept_by : (stored room : Bool) → is_data (state_at cache.states block) ≡ stored → not (available_frames cache.blocks == 0) ≡ room → with_kept block bytes cache ≡ (if stored && room then filled else cache)
  kept_by stored room is has = λ i. if is i && has i then filled else cache

  held_same : is_cached block cache.blocks ≡ true → filled ≡ cache
  held_same held = ap (λ (b : Bool). let next : CacheState = record { states = cache.states; blocks = if b then cache.blocks else (record { free = (taken cache.blocks).free; clean = (taken cache.blocks).clean ++ record { block = block; bytes = bytes } ∷ []; dirty = cache.blocks.dirty }) } in next) held

  -- a block of data for which there is a frame
  pub kept_filled : state_at cache.states block ≡ Data → (HasNoFrame block cache.blocks → ⊥) → filled ≡ with_kept block bytes cache
  kept_filled is some = elim (cases_Bool (not (available_frames cache.blocks == 0))) [
    | inl room ↦ sym (kept_by true true (ap is_data is) room)
    | inr none ↦ elim (cases_Bool (is_cached block cache.blocks)) [
      | inl held ↦ held_same held ∙ sym (kept_by true false (ap is_data is) none)
      | inr missing ↦
          let hand = none_left (available_frames cache.blocks) none in
          absurd (some (missing, omega (arith, hand), no_list cache.blocks.clean (omega (arith, hand))))
    ]
  ]

  -- and one for which there is none
  pub kept_unfilled : state_at cache.states block ≡ Data → HasNoFrame block cache.blocks → cache ≡ with_kept block bytes cache
  kept_unfilled is none =
      let hand : available_frames cache.blocks ≡ 0 = omega (arith, none.1, ap length none.2) in
      sym (kept_by true false (ap is_data is) (ap (λ (n : ℕ). not (n == 0)) hand))

  pub kept_other : is_data (state_at cache.states block) ≡ false → cache ≡ with_kept block bytes cache
  kept_other other = sym (ap (λ (b : Bool). if b && not (available_frames cache.blocks == 0) then filled else cache) other)

  -- one whose bytes are in memory stays as it is
  pub kept_seen : bytes_seen cache block ≢ None → with_kept block bytes cache ≡ cache
  kept_seen seen = by (state_at cache.states block) refl
    where
      by : (kind : Kind) → state_at cache.states block ≡ kind → with_kept block bytes cache ≡ cache
      by Data is = elim (cases_Bool (is_cached block cache.blocks)) [
        | inl held ↦ sym (kept_filled is (λ none. let no = sym held ∙ none.0 in cc)) ∙ held_same held
        | inr missing ↦ absurd (seen (seen_missing cache block is missing))
      ]
      by Zero is = sym (kept_other (ap is_data is))
      by Hole is = sym (kept_other (ap is_data is))

-- and so do the first blocks, where their bytes are
pub all_kept_seen : (first : ℕ) (bytes : List ℕ) (count : ℕ) (cache : CacheState) → ((j : ℕ) → j < count → bytes_seen cache (first + j) ≢ None) → with_all_kept first bytes count cache ≡ cache
all_kept_seen first bytes zero cache there = refl
all_kept_seen first bytes (suc count) cache there =
    ap (with_kept (first + count) (block_of bytes count)) (all_kept_seen first bytes count cache (λ j below. there j (omega (arith, below))))
    ∙ kept_seen (first + count) (block_of bytes count) cache (there count (omega arith))

-- one block more
pub more_kept : (first : ℕ) (bytes : List ℕ) (count more : ℕ) (old mid new : CacheState) (given : List ℕ) → more ≡ suc count → given ≡ block_of bytes count → mid ≡ with_all_kept first bytes count old
    → new ≡ with_kept (first + count) given mid → new ≡ with_all_kept first bytes more old
more_kept first bytes count more old mid new given next is so_far step =
    step ∙ (λ i. with_kept (first + count) (is i) (so_far i)) ∙ ap (λ (n : ℕ). with_all_kept first bytes n old) (sym next)
