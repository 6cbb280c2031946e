-- Numbers and strings are told from what follows them.
use Rattle.std.proofs.Common.{◌≡◌, ℕ, ◌<◌, ◌≤◌, ◌^◌, List, ◌++◌, length, take, drop, refl, sym, ap, ◌∙◌, append_assoc, length-append, length-take, arith}
use Rattle.std.specs.Int.{w16, w32, w64, to_be_bytes, from_be_bytes}
use Rattle.std.proofs.lemmas.List.{take_at, drop_at, take-append-drop}
use Rattle.std.proofs.lemmas.Nat.{from_be_bytes-to_be_bytes_2, from_be_bytes-to_be_bytes_4, from_be_bytes-to_be_bytes_8}
use Rattle.option_wire.specs.Field.{IsText, counted}

pub same_front : (a b x y : List ℕ) → length a ≡ length b → a ++ x ≡ b ++ y → (a ≡ b) × (x ≡ y)
same_front a b x y len same = (
  sym (take_at a x (length b) len) ∙ ap (take (length b)) same ∙ take_at b y (length b) refl,
  sym (drop_at a x (length b) len) ∙ ap (drop (length b)) same ∙ drop_at b y (length b) refl,
)

pub number_16 : (n m : ℕ) (x y : List ℕ) → n < 2 ^ 16 → m < 2 ^ 16 → to_be_bytes w16 n ++ x ≡ to_be_bytes w16 m ++ y → (n ≡ m) × (x ≡ y)
number_16 n m x y p q same =
    let both = same_front (to_be_bytes w16 n) (to_be_bytes w16 m) x y refl same in
    (sym (from_be_bytes-to_be_bytes_2 n p) ∙ ap (from_be_bytes w16) both.0 ∙ from_be_bytes-to_be_bytes_2 m q, both.1)

pub number_32 : (n m : ℕ) (x y : List ℕ) → n < 2 ^ 32 → m < 2 ^ 32 → to_be_bytes w32 n ++ x ≡ to_be_bytes w32 m ++ y → (n ≡ m) × (x ≡ y)
number_32 n m x y p q same =
    let both = same_front (to_be_bytes w32 n) (to_be_bytes w32 m) x y refl same in
    (sym (from_be_bytes-to_be_bytes_4 n p) ∙ ap (from_be_bytes w32) both.0 ∙ from_be_bytes-to_be_bytes_4 m q, both.1)

pub number_64 : (n m : ℕ) (x y : List ℕ) → n < 2 ^ 64 → m < 2 ^ 64 → to_be_bytes w64 n ++ x ≡ to_be_bytes w64 m ++ y → (n ≡ m) × (x ≡ y)
number_64 n m x y p q same =
    let both = same_front (to_be_bytes w64 n) (to_be_bytes w64 m) x y refl same in
    (sym (from_be_bytes-to_be_bytes_8 n p) ∙ ap (from_be_bytes w64) both.0 ∙ from_be_bytes-to_be_bytes_8 m q, both.1)

-- what stands after the number of a string's bytes
counted_is : (text x : List ℕ) → counted text ++ x ≡ to_be_bytes w32 (length text) ++ (text ++ x)
counted_is text x = append_assoc (to_be_bytes w32 (length text)) text x

pub one_text : (text other x y : List ℕ) → IsText text → IsText other → counted text ++ x ≡ counted other ++ y → (text ≡ other) × (x ≡ y)
one_text text other x y p q same =
    let lens = number_32 (length text) (length other) (text ++ x) (other ++ y) p q (sym (counted_is text x) ∙ same ∙ counted_is other y) in
    same_front text other x y lens.0 lens.1

pub text_of : (content rest text behind : List ℕ) (len : ℕ) → content ≡ to_be_bytes w32 len ++ rest → len ≤ length rest → text ≡ take len rest → behind ≡ drop len rest
    → content ≡ counted text ++ behind
text_of content rest text behind len whole within text_is behind_is =
    let len_is : length text ≡ len = omega (arith, ap length text_is, length-take len rest) in
    let parts : rest ≡ text ++ behind = sym (take-append-drop len rest) ∙ (λ i. sym text_is i ++ sym behind_is i) in
    whole ∙ (λ i. to_be_bytes w32 (sym len_is i) ++ parts i) ∙ sym (counted_is text behind)

-- fewer than four bytes begin with no string
pub no_number : (content text behind : List ℕ) → length content < 4 → content ≡ counted text ++ behind → ⊥
no_number content text behind short same =
    omega (arith, ap length (same ∙ counted_is text behind), length-append (to_be_bytes w32 (length text)) (text ++ behind))

-- nor do bytes that are fewer than their number
pub no_text : (content rest text behind : List ℕ) (len : ℕ) → len < 2 ^ 32 → content ≡ to_be_bytes w32 len ++ rest → length rest < len → IsText text → content ≡ counted text ++ behind → ⊥
no_text content rest text behind len fits whole short text_fits same =
    let both = number_32 len (length text) rest (text ++ behind) fits text_fits (sym whole ∙ same ∙ counted_is text behind) in
    omega (arith, short, both.0, ap length both.1, length-append text behind)

-- what stands after a string
pub behind_text : (content text rest other behind : List ℕ) → IsText text → IsText other → content ≡ counted text ++ rest → content ≡ counted other ++ behind → rest ≡ behind
behind_text content text rest other behind p q whole same = (one_text text other rest behind p q (sym whole ∙ same)).1
