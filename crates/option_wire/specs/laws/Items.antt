-- Items that follow one another, each of which is told from what follows it.
use Rattle.std.proofs.Common.{◌≡◌, ℕ, ◌+◌, ◌<◌, ◌≤◌, ◌^◌, List, [], ◌∷◌, ◌++◌, length, refl, sym, ap, ◌∙◌, append_assoc, arith}
use Rattle.std.specs.Int.{w16, to_be_bytes}
use Rattle.std.specs.List.{AllByRecursion, flat_map}
use Rattle.std.proofs.lemmas.List.{append-nil}
use Rattle.option_wire.specs.Field.{IsText, counted}
use Rattle.option_wire.specs.laws.Texts.{number_16, one_text}

-- no item begins another
pub record AreApart {A : Type 0} (f : A → List ℕ) (Fits : A → Type 0) : Type 0 where
  pub one : (a b : A) (x y : List ℕ) → Fits a → Fits b → f a ++ x ≡ f b ++ y → (a ≡ b) × (x ≡ y)

pub types_apart : AreApart (to_be_bytes w16) (λ kind. kind < 2 ^ 16)
types_apart = record { one = λ a b x y p q same. number_16 a b x y p q same }

pub texts_apart : AreApart counted IsText
texts_apart = record { one = one_text }

-- the content is these items, and then the rest
pub record Reads {A : Type 0} (f : A → List ℕ) (Fits : A → Type 0) (content : List ℕ) (items : List A) (rest : List ℕ) : Type 0 where
  pub fits : AllByRecursion Fits items
  pub whole : content ≡ flat_map f items ++ rest

fits_push : {A : Type 0} (Fits : A → Type 0) (items : List A) (item : A) → AllByRecursion Fits items → Fits item → AllByRecursion Fits (items ++ item ∷ [])
fits_push Fits [] item all fits = (fits, tt)
fits_push Fits (x ∷ items) item all fits = (all.0, fits_push Fits items item all.1 fits)

items_push : {A : Type 0} (f : A → List ℕ) (items : List A) (item : A) (rest : List ℕ) → flat_map f items ++ (f item ++ rest) ≡ flat_map f (items ++ item ∷ []) ++ rest
items_push f [] item rest = ap (λ (t : List ℕ). t ++ rest) (sym (append-nil (f item)))
items_push f (x ∷ items) item rest =
    append_assoc (f x) (flat_map f items) (f item ++ rest) ∙ ap (λ (t : List ℕ). f x ++ t) (items_push f items item rest) ∙ sym (append_assoc (f x) (flat_map f (items ++ item ∷ [])) rest)

-- what the rest is, where the content is items alone
pub record Left {A : Type 0} (f : A → List ℕ) (Fits : A → Type 0) (items others : List A) (rest : List ℕ) : Type 0 where
  pub more : List A
  pub fits : AllByRecursion Fits more
  pub len : length items + length more ≡ length others
  pub is : rest ≡ flat_map f more

left_of : {A : Type 0} (f : A → List ℕ) (Fits : A → Type 0) → AreApart f Fits → (items others : List A) (rest : List ℕ) → AllByRecursion Fits items → AllByRecursion Fits others
    → length items ≤ length others → flat_map f items ++ rest ≡ flat_map f others → Left f Fits items others rest
left_of f Fits apart [] others rest p q le same = record { more = others; fits = q; len = omega arith; is = same }
left_of f Fits apart (a ∷ first) [] rest p q le same = absurd (omega arith)
left_of f Fits apart (a ∷ first) (b ∷ bs) rest p q le same =
    let both = apart.one a b (flat_map f first ++ rest) (flat_map f bs) p.0 q.0 (sym (append_assoc (f a) (flat_map f first) rest) ∙ same) in
    let next = left_of f Fits apart first bs rest p.1 q.1 (omega arith) both.1 in
    record { more = next.more; fits = next.fits; len = omega (arith, next.len); is = next.is }

-- fewer items were read than there are: another one stands here
pub Reads-more : {A : Type 0} (f : A → List ℕ) (Fits : A → Type 0) → AreApart f Fits → (content : List ℕ) (items others : List A) (rest : List ℕ) → Reads f Fits content items rest
    → AllByRecursion Fits others → length items < length others → content ≡ flat_map f others → (item : A) × (behind : List ℕ) × Fits item × (rest ≡ f item ++ behind)
Reads-more {A = A} f Fits apart content items others rest reads fits lt same =
    let left = left_of f Fits apart items others rest reads.fits fits (omega arith) (sym reads.whole ∙ same) in
    elim left.more as (λ more. AllByRecursion Fits more → length items + length more ≡ length others → rest ≡ flat_map f more → (item : A) × (behind : List ℕ) × Fits item × (rest ≡ f item ++ behind)) [
      | [] ↦ λ all len is. absurd (omega (arith, len, lt))
      | (item ∷ more) ↦ λ all len is. (item, flat_map f more, all.0, is)
    ] left.fits left.len left.is

-- as many were read as there are: nothing stands here
pub Reads-end : {A : Type 0} (f : A → List ℕ) (Fits : A → Type 0) → AreApart f Fits → (content : List ℕ) (items others : List A) (rest : List ℕ) → Reads f Fits content items rest
    → AllByRecursion Fits others → length items ≡ length others → content ≡ flat_map f others → rest ≡ []
Reads-end {A = A} f Fits apart content items others rest reads fits len_is same =
    let left = left_of f Fits apart items others rest reads.fits fits (omega arith) (sym reads.whole ∙ same) in
    elim left.more as (λ more. length items + length more ≡ length others → rest ≡ flat_map f more → rest ≡ []) [
      | [] ↦ λ len is. is
      | (item ∷ more) ↦ λ len is. absurd (omega (arith, len, len_is))
    ] left.len left.is

-- the same bytes are the same items
pub same_items : {A : Type 0} (f : A → List ℕ) (Fits : A → Type 0) → AreApart f Fits → (items others : List A) (x y : List ℕ) → AllByRecursion Fits items → AllByRecursion Fits others
    → length items ≡ length others → flat_map f items ++ x ≡ flat_map f others ++ y → (items ≡ others) × (x ≡ y)
same_items f Fits apart [] [] x y p q len same = (refl, same)
same_items f Fits apart [] (b ∷ bs) x y p q len same = absurd (omega (arith, len))
same_items f Fits apart (a ∷ first) [] x y p q len same = absurd (omega (arith, len))
same_items f Fits apart (a ∷ first) (b ∷ bs) x y p q len same =
    let both = apart.one a b (flat_map f first ++ x) (flat_map f bs ++ y) p.0 q.0 (sym (append_assoc (f a) (flat_map f first) x) ∙ same ∙ append_assoc (f b) (flat_map f bs) y) in
    let next = same_items f Fits apart first bs x y p.1 q.1 (omega (arith, len)) both.1 in
    (λ i. both.0 i ∷ next.0 i, next.1)
