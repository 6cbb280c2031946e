-- a map and its bytes determine each other
use Rattle.std.proofs.Common.{◌≡◌, ℕ, ◌+◌, ◌*◌, ◌/◌, ◌%◌, ◌^◌, ◌<◌, List, length, slice_index, sym, ◌∙◌, ap, refl, arith, inl, inr, lit<}
use Rattle.std.proofs.Math.Nat.{div-one}
use Rattle.std.proofs.lemmas.List.{ext_get_or, get_or_past}
use Rattle.image_model.specs.declared.command.Kind.{Kind}
use Rattle.image_model.specs.declared.command.Kind.TheVariants.{Data, Zero, Hole}
use Rattle.alloc_map.specs.Codes.{code_at, code_of, kind_of, state_at}
use Rattle.alloc_map.specs.Map.{IsMapOf, IsBadMap}

pub kind_of-code_of : (state : Kind) → kind_of (code_of state) ≡ state
kind_of-code_of Data = refl
kind_of-code_of Zero = refl
kind_of-code_of Hole = refl

pub code_of-below : (state : Kind) → code_of state < 3
code_of-below Data = lit< tt
code_of-below Zero = lit< tt
code_of-below Hole = lit< tt

same_state : (state other : Kind) → code_of state ≡ code_of other → state ≡ other
same_state state other same = sym (kind_of-code_of state) ∙ ap kind_of same ∙ kind_of-code_of other

pub one_map : (bytes : List ℕ) (states others : List Kind) → length states ≡ length others → IsMapOf bytes states → IsMapOf bytes others → states ≡ others
one_map bytes states others lengths first second =
    ext_get_or Hole states others lengths
    (λ block _. same_state _ _ (sym (first.codes block) ∙ second.codes block))

-- the code of the j-th block of a byte
code_in_byte : (bytes : List ℕ) (place j : ℕ) → j < 4 → code_at bytes (4 * place + j) ≡ slice_index bytes place / 2 ^ (2 * j) % 4
code_in_byte bytes place j below =
    let byte_is : (4 * place + j) / 4 ≡ place = omega arith in
    let bits_are : (4 * place + j) % 4 ≡ j = omega arith in
    rw (byte_is, bits_are) refl

-- a byte is its four codes
same_byte : (a b : ℕ) → a < 256 → b < 256 → a / 1 % 4 ≡ b / 1 % 4 → a / 4 % 4 ≡ b / 4 % 4 → a / 16 % 4 ≡ b / 16 % 4 → a / 64 % 4 ≡ b / 64 % 4 → a ≡ b
same_byte a b fits_a fits_b c0 c1 c2 c3 = omega (arith, div-one a, div-one b)

same_code : (bytes others : List ℕ) (place j : ℕ) → j < 4 → ((block : ℕ) → code_at bytes block ≡ code_at others block) → slice_index bytes place / 2 ^ (2 * j) % 4 ≡ slice_index others place / 2 ^ (2 * j) % 4
same_code bytes others place j below same =
    sym (code_in_byte bytes place j below) ∙ same (4 * place + j) ∙ code_in_byte others place j below

same_bytes_at : (bytes others : List ℕ) (place : ℕ) → slice_index bytes place < 256 → slice_index others place < 256 → ((block : ℕ) → code_at bytes block ≡ code_at others block) → slice_index bytes place ≡ slice_index others place
same_bytes_at bytes others place fits fits_other same =
    let c0 = same_code bytes others place 0 (lit< tt) same in
    let c1 = same_code bytes others place 1 (lit< tt) same in
    let c2 = same_code bytes others place 2 (lit< tt) same in
    let c3 = same_code bytes others place 3 (lit< tt) same in
    same_byte _ _ fits fits_other c0 c1 c2 c3

pub one_spelling : (states : List Kind) (bytes others : List ℕ) → ((place : ℕ) → slice_index bytes place < 256) → ((place : ℕ) → slice_index others place < 256) → IsMapOf bytes states → IsMapOf others states → bytes ≡ others
one_spelling states bytes others fits fits_other first second =
    ext_get_or 0 bytes others (first.size ∙ sym second.size)
    (λ place _. same_bytes_at bytes others place (fits place) (fits_other place)
    (λ block. first.codes block ∙ sym (second.codes block)))

pub never_bad : (bytes : List ℕ) (states : List Kind) → IsMapOf bytes states → IsBadMap (length states) bytes → ⊥
never_bad bytes states map (block, bad) = elim bad [
  | inl three ↦
      let below = code_of-below (state_at states block) in
      let code = map.codes block in
      omega arith
  | inr past ↦
      let code = map.codes block ∙ ap code_of (get_or_past states block Hole past.0) in
      let some = past.1 in
      omega arith
]
