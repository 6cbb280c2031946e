-- the last element of a list
use Rattle.std.proofs.Common.{◌≡◌, ◌∙◌, ◌+◌, ℕ, List, [], ◌∷◌, ◌++◌, length, replicate, ap, refl, sym, arith, length-append}
use Rattle.std.proofs.lemmas.List.{replicate_more}

-- of equal lists the last elements are equal, and what stands before them
pub last_same : {A : Type 0} (xs ys : List A) (x y : A) → xs ++ x ∷ [] ≡ ys ++ y ∷ [] → (xs ≡ ys) × (x ≡ y)
last_same [] [] x y is = (refl, cc)
last_same [] (b ∷ ys) x y is = absurd (let size = ap length is in omega (arith, size, length-append ys (y ∷ [])))
last_same (a ∷ xs) [] x y is = absurd (let size = ap length is in omega (arith, size, length-append xs (x ∷ [])))
last_same (a ∷ xs) (b ∷ ys) x y is =
    let heads : a ≡ b = cc in
    let rest = last_same xs ys x y (cc) in
    (λ i. heads i ∷ rest.0 i, rest.1)

-- of equal elements the last is one, and the others stand before it
pub popped : {A : Type 0} (all front : List A) (last x : A) (count left : ℕ) → all ≡ front ++ last ∷ [] → all ≡ replicate count x → count ≡ left + 1 → (front ≡ replicate left x) × (last ≡ x)
popped all front last x count left ends are is = last_same front (replicate left x) last x (sym ends ∙ (are ∙ (ap (λ (n : ℕ). replicate n x) is ∙ sym (replicate_more left x))))
