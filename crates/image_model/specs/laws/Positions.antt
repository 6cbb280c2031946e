-- what stands at each place of a list with some items put in the place of others, and the image that this gives
use Rattle.std.proofs.Common.{◌≡◌, ⊎_elim, ℕ, ◌+◌, ◌-◌, ◌≤◌, ◌<◌, Bool, true, false, if◌then◌else◌, List, length, get_or, replicate, sym, ◌∙◌, ap, refl, arith, rules, length-append, length-drop}
use Rattle.std.proofs.lemmas.Bool.{cases_lt}
use Rattle.std.proofs.lemmas.Bool.Decides.{nat_tests}
use Rattle.std.proofs.lemmas.List.{places, get_or-replicate, length-replicate, length-take}
use Rattle.image_model.specs.Image.{covers}
use Rattle.image_model.specs.Patched.{patched}

module _ {X : Type 0} (list : List X) (at : ℕ) (items : List X) (d : X) (fits : at + length items ≤ length list) where
  within : (k : ℕ) → k < length items → get_or (patched list at items) (at + k) d ≡ get_or items k d
  within k below = search (rules, places)

  before : (place : ℕ) → place < at → get_or (patched list at items) place d ≡ get_or list place d
  before place below = search (rules, places)

  behind : (place : ℕ) → at + length items ≤ place → get_or (patched list at items) place d ≡ get_or list place d
  behind place above = search (rules, places)

  pub patched_at : (place : ℕ) → get_or (patched list at items) place d ≡ (if covers at (length items) place then get_or items (place - at) d else get_or list place d)
  patched_at place = ⊎_elim
      (λ low. before place low ∙ outside (grind (arith, nat_tests)))
      (λ above. ⊎_elim
      (λ inside.
      let same : at + (place - at) ≡ place = omega arith in
      sym (ap (λ (p : ℕ). get_or (patched list at items) p d) same) ∙ within (place - at) (omega arith) ∙ covered (grind (arith, nat_tests)))
      (λ high. behind place high ∙ outside (grind (arith, nat_tests)))
      (cases_lt place (at + length items)))
      (cases_lt place at)
    where
      outside : covers at (length items) place ≡ false → get_or list place d ≡ (if covers at (length items) place then get_or items (place - at) d else get_or list place d)
      outside is = sym (ap (λ (test : Bool). if test then get_or items (place - at) d else get_or list place d) is)

      covered : covers at (length items) place ≡ true → get_or items (place - at) d ≡ (if covers at (length items) place then get_or items (place - at) d else get_or list place d)
      covered is = sym (ap (λ (test : Bool). if test then get_or items (place - at) d else get_or list place d) is)

same_where_true : {X : Type 0} (test : Bool) (a b e : X) → (test ≡ true → a ≡ b) → (if test then a else e) ≡ (if test then b else e)
same_where_true true a b e same = same refl
same_where_true false a b e same = refl

-- where all that is put is the same item
pub filled_at : {X : Type 0} (list : List X) (at count : ℕ) (item d : X) → at + count ≤ length list
    → (place : ℕ) → get_or (patched list at (replicate count item)) place d ≡ (if covers at count place then item else get_or list place d)
filled_at list at count item d fits place =
    let long : length (replicate count item) ≡ count = length-replicate count item in
    patched_at list at (replicate count item) d (omega (arith, long, fits)) place
    ∙ ap (λ (n : ℕ). if covers at n place then get_or (replicate count item) (place - at) d else get_or list place d) long
    ∙ same_where_true (covers at count place) _ _ _ (λ is. get_or-replicate count (place - at) item d (grind (arith, nat_tests, is)))

-- a list has as many items as before
pub length-patched : {X : Type 0} (list : List X) (at : ℕ) (items : List X) → at + length items ≤ length list → length (patched list at items) ≡ length list
length-patched list at items fits = simp (length-append, length-take, length-drop) (omega arith)
