-- the states that a map's bytes give
use Rattle.std.proofs.Common.{◌≡◌, ℕ, ◌*◌, ◌/◌, ◌%◌, ◌^◌, ◌<◌, ◌≤◌, List, length, replicate, slice_index, sym, ◌∙◌, ap, refl, arith, inl, inr, subst, zero, suc}
use Rattle.std.proofs.lemmas.List.{get_or_past, get_or-replicate, length-replicate}
use Rattle.std.proofs.lemmas.List.FromFn.{length-map-range_with_len, get_or-map-range_with_len, fill_by_all}
use Rattle.std.proofs.lemmas.Bool.{cases_lt}
use Rattle.std.proofs.Math.Nat.{zero-div, zero-mod}
use Rattle.image_model.specs.declared.command.Kind.{Kind}
use Rattle.image_model.specs.declared.command.Kind.TheVariants.{Hole}
use Rattle.image_model.specs.Geometry.{map_bytes_of}
use Rattle.alloc_map.specs.Codes.{code_at, code_of, kind_of, state_at, states_of}
use Rattle.alloc_map.specs.Map.{IsMapOf, IsMap}

pub length-states_of : (blocks : ℕ) (bytes : List ℕ) → length (states_of blocks bytes) ≡ blocks
length-states_of blocks bytes = length-map-range_with_len (λ block. kind_of (code_at bytes block)) 0 blocks

pub state_at-states_of : (blocks : ℕ) (bytes : List ℕ) (block : ℕ) → block < blocks → state_at (states_of blocks bytes) block ≡ kind_of (code_at bytes block)
state_at-states_of blocks bytes block below =
    get_or-map-range_with_len (λ b. kind_of (code_at bytes b)) 0 blocks block block Hole below (omega arith)

pub code_of-kind_of : (code : ℕ) → code < 3 → code_of (kind_of code) ≡ code
code_of-kind_of zero below = refl
code_of-kind_of (suc zero) below = refl
code_of-kind_of (suc (suc zero)) below = refl
code_of-kind_of (suc (suc (suc code))) below = absurd (omega arith)

-- in zero bytes each code is 0
pub zero_code : (byte block : ℕ) → byte ≡ 0 → byte / 2 ^ (2 * (block % 4)) % 4 ≡ 0
zero_code byte block is_zero = rw (is_zero, zero-div, zero-mod) refl

pub byte_of_zeroes : (n place : ℕ) → slice_index (replicate n 0) place ≡ 0
byte_of_zeroes n place = elim (cases_lt place n) [
  | inl below ↦ get_or-replicate n place 0 0 below
  | inr past ↦ get_or_past (replicate n 0) place 0 (rw length-replicate past)
]

pub code_at-replicate : (n block : ℕ) → code_at (replicate n 0) block ≡ 0
code_at-replicate n block = zero_code _ block (byte_of_zeroes n (block / 4))

-- the state of a block by its code
pub state_of_code : (blocks : ℕ) (bytes : List ℕ) (states : List Kind) (block code : ℕ) → states_of blocks bytes ≡ states → block < length states → code_at bytes block ≡ code → state_at states block ≡ kind_of code
state_of_code blocks bytes states block code are below is =
    let length_is : length states ≡ blocks = ap length (sym are) ∙ length-states_of blocks bytes in
    let inside : block < blocks = omega arith in
    ap (λ list. state_at list block) (sym are) ∙ state_at-states_of blocks bytes block inside ∙ ap kind_of is

-- a map's own states
pub own_code : (blocks : ℕ) (bytes : List ℕ) → IsMap blocks bytes → (block : ℕ) → code_at bytes block ≡ code_of (state_at (states_of blocks bytes) block)
own_code blocks bytes map block = elim (cases_lt block blocks) [
  | inl below ↦
      sym (ap code_of (state_at-states_of blocks bytes block below) ∙ code_of-kind_of (code_at bytes block) (map.below_three block))
  | inr past ↦
      let outside : length (states_of blocks bytes) ≤ block = rw length-states_of past in
      map.padding block past ∙ sym (ap code_of (get_or_past (states_of blocks bytes) block Hole outside))
]

pub own_states : (blocks : ℕ) (bytes : List ℕ) (states : List Kind) → IsMap blocks bytes → states_of blocks bytes ≡ states → IsMapOf bytes states
own_states blocks bytes states map are =
    let P : List Kind → Type 0 = λ list. IsMapOf bytes list in
    subst P are record {
      size = map.size ∙ ap map_bytes_of (sym (length-states_of blocks bytes));
      codes = own_code blocks bytes map;
    }

pub map_of_zeroes : (blocks : ℕ) → blocks ≤ 16777216 → IsMap blocks (replicate (map_bytes_of blocks) 0)
map_of_zeroes blocks few = record {
  few = few;
  size = length-replicate (map_bytes_of blocks) 0;
  below_three = λ block. let zero = code_at-replicate (map_bytes_of blocks) block in omega arith;
  padding = λ block _. code_at-replicate (map_bytes_of blocks) block;
}

pub states_of-zeroes : (blocks n : ℕ) (bytes : List ℕ) → bytes ≡ replicate n 0 → states_of blocks bytes ≡ replicate blocks Hole
states_of-zeroes blocks n bytes are =
    let states = λ (list : List ℕ) (block : ℕ). kind_of (code_at list block) in
    sym (fill_by_all (states bytes) (replicate blocks Hole) blocks Hole
    (length-replicate blocks Hole)
    (λ k below. get_or-replicate blocks k Hole Hole below ∙ sym (ap (λ list. states list k) are ∙ ap kind_of (code_at-replicate n k))))
