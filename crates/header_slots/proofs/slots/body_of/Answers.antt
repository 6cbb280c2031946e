use Rattle.std.proofs.Common.{◌≡◌, ◌∙◌, ℕ, ◌-◌, ◌+◌, ◌<◌, List, length, slice_index, replicate, drop, ◌++◌, refl, sym, arith, inl, inr, subst}
use Rattle.std.proofs.lemmas.Bool.{cases_lt}
use Rattle.std.proofs.lemmas.List.{drop-replicate, get_or-append_right, get_or_append_left, get_or-replicate, get_or_past, length-append, length-replicate}
use Rattle.header_slots.specs.declared.header.Header.{Header}
use Rattle.header_slots.specs.Header.{SpellsAt, IsBodyOf}
use Rattle.header_slots.specs.laws.Frame.{moved_spelling}
use Rattle.header_slots.proofs.slots.body_of.Goals as goal

zero_at : (n place : ℕ) → slice_index (replicate n 0) place ≡ 0
zero_at n place = elim (cases_lt place n) [
  | inl below ↦ get_or-replicate n place 0 0 below
  | inr past ↦ get_or_past (replicate n 0) place 0 (rw length-replicate past)
]

padded : (header : Header) (front : List ℕ) (n : ℕ) → length front ≡ 39 → n ≡ 4056 → SpellsAt front 0 header → IsBodyOf header (front ++ replicate n 0)
padded header front n size rest spells = record {
  size = omega (arith, length-append front (replicate n 0), length-replicate {A = ℕ} n 0);
  spelled = moved_spelling front (front ++ replicate n 0) 0 0
      (λ k below.
      let k0 : 0 + k ≡ k = omega arith in
      let inside : 0 + k < length front = omega arith in
      sym (get_or_append_left front (replicate n 0) 0 (0 + k) inside)) header spells;
  rest = λ k behind. get_or-append_right front (replicate n 0) 39 k 0 size behind ∙ zero_at n (k - 39);
}

cut_zeroes : (n : ℕ) (header : Header) (front : List ℕ) → length front ≡ 39 → n ≡ 4095 → SpellsAt front 0 header → IsBodyOf header (front ++ drop 39 (replicate n 0))
cut_zeroes n header front size whole spells =
    let P : List ℕ → Type 0 = λ zeroes. IsBodyOf header (front ++ zeroes) in
    subst P (sym (drop-replicate 39 n 0)) (padded header front (n - 39) size (omega arith) spells)

pub returns : goal.returns
returns c =
    let spells : SpellsAt c.copy_from_slice.new.self 0 c.args.header.now = rw c.copy_from_slice.ensures.after c.encode.ensures in
    cut_zeroes 4095 c.args.header.now c.copy_from_slice.new.self c.copy_from_slice.ensures.len refl spells
