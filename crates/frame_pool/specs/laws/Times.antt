-- how often a frame stands in lists
use Rattle.std.proofs.Common.{◌≡◌, ◌≢◌, ◌≤◌, ◌+◌, inl, inr, ℕ, cond, false, List, [], ◌∷◌, ◌++◌, length, refl, ap, ◌∙◌, sym, arith}
use Rattle.std.proofs.lemmas.Bool.{ne_eqb, eq-eqb}
use Rattle.std.proofs.lemmas.Bool.Decides.{eqb_tells}
use Rattle.std.proofs.Math.Dec.{eqb}
use Rattle.frame_pool.specs.Lists.{times, without}

pub times-append : (frame : ℕ) (xs ys : List ℕ) → times frame (xs ++ ys) ≡ times frame xs + times frame ys
times-append frame [] ys = omega arith
times-append frame (x ∷ xs) ys = omega (arith, times-append frame xs ys)

pub times-without_same : (frame : ℕ) (xs : List ℕ) → times frame (without frame xs) ≡ 0
times-without_same frame [] = refl
times-without_same frame (x ∷ xs) =
    elim (eqb_tells x frame) [
      | inl p ↦ rw p.0 (times-without_same frame xs)
      | inr p ↦ rw (p.0, p.0) (omega (arith, times-without_same frame xs))
    ]

pub times-without_other : (frame other : ℕ) (xs : List ℕ) → other ≢ frame → times other (without frame xs) ≡ times other xs
times-without_other frame other [] ne = refl
times-without_other frame other (x ∷ xs) ne =
    elim (eqb_tells x frame) [
      | inl p ↦ let off : eqb x other ≡ false = ne_eqb x other (λ e. ne (sym e ∙ p.1)) in
          rw (p.0, off) (omega (arith, times-without_other frame other xs ne))
      | inr p ↦ rw p.0 (ap (λ (n : ℕ). cond (eqb x other) 1 0 + n) (times-without_other frame other xs ne))
    ]

pub length-without : (frame : ℕ) (xs : List ℕ) → length (without frame xs) + times frame xs ≡ length xs
length-without frame [] = refl
length-without frame (x ∷ xs) =
    elim (eqb_tells x frame) [
      | inl p ↦ rw p.0 (omega (arith, length-without frame xs))
      | inr p ↦ rw p.0 (omega (arith, length-without frame xs))
    ]

-- a list without a frame that isn't in it
pub without_absent : (frame : ℕ) (xs : List ℕ) → times frame xs ≡ 0 → without frame xs ≡ xs
without_absent frame [] none = refl
without_absent frame (x ∷ xs) none =
    elim (eqb_tells x frame) [
      | inl p ↦ absurd (let there : times frame (x ∷ xs) ≡ 1 + times frame xs = rw p.0 refl in omega (arith, there, none))
      | inr p ↦ let rest : times frame xs ≡ 0 = omega (arith, none) in rw p.0 (ap (λ (zs : List ℕ). x ∷ zs) (without_absent frame xs rest))
    ]

-- the head isn't the frame, nor is it in the rest
pub head_other : (frame x : ℕ) (xs : List ℕ) → times frame (x ∷ xs) ≡ 0 → x ≢ frame
head_other frame x xs none e =
    let there : times frame (x ∷ xs) ≡ 1 + times frame xs = rw (eq-eqb x frame e) refl in omega (arith, there, none)

pub tail_none : (frame x : ℕ) (xs : List ℕ) → times frame (x ∷ xs) ≡ 0 → times frame xs ≡ 0
tail_none frame x xs none = omega (arith, none)

pub times_head : (x : ℕ) (xs : List ℕ) → times x (x ∷ xs) ≡ 1 + times x xs
times_head x xs = rw (eq-eqb x x refl) refl

pub times_other : (frame x : ℕ) (xs : List ℕ) → x ≢ frame → times frame (x ∷ xs) ≡ times frame xs
times_other frame x xs ne = rw (ne_eqb x frame ne) (omega arith)

-- a frame that stands in a list isn't one that doesn't
pub differ : (frame other : ℕ) (xs : List ℕ) → 1 ≤ times frame xs → times other xs ≡ 0 → frame ≢ other
differ frame other xs some none e = let gone : times frame xs ≡ 0 = rw e none in omega (arith, some, gone)
