-- A header depends on the bytes of its slot alone: `use Rattle.header_slots.specs.laws.Frame.{moved_spelling, same_reading, ..}`.
use Rattle.std.proofs.Common.{◌≡◌, ℕ, zero, suc, ◌+◌, ◌*◌, ◌^◌, ◌<◌, ◌≤◌, inl, inr, List, slice_index, length, take, drop, ◌-◌, Result, Ok, Err, refl, sym, ◌∙◌, ap, arith, subst}
use Rattle.std.proofs.lemmas.List.{get_or-drop, get_or-take, take_all, length-drop}
use Rattle.byteorder.specs.Endian.{big_from}
use Rattle.header_slots.specs.declared.fault.HeaderFault.{HeaderFault}
use Rattle.header_slots.specs.declared.fault.HeaderFault.TheVariants.{DeviceFault, NoHeader, BadHeader}
use Rattle.header_slots.specs.declared.header.Header.{Header}
use Rattle.image_model.specs.declared.side.Side.{Side}
use Rattle.image_model.specs.declared.side.Side.TheVariants.{Zero, One}
use Rattle.header_slots.specs.Header.{SpellsAt, IsBadAt, another_magic, outside_limits, no_mode, no_first_area, no_map_slot}
use Rattle.header_slots.specs.Number.{number_at}
use Rattle.image_model.specs.Layout.{AreSizesOf, areas_of}
use Rattle.header_slots.specs.Slots.{slot_at, generation_in, IsInForce, AreEqual, IsBad, equal_generations, no_header_there, another_size, IsReading}
use Rattle.image_model.specs.Side.{other_of}

same_from : (count p q : ℕ) (a b : List ℕ) → ((k : ℕ) → k < count → slice_index a (p + k) ≡ slice_index b (q + k)) → big_from p count a ≡ big_from q count b
same_from zero p q a b same = refl
same_from (suc count) p q a b same =
    let head : slice_index a p ≡ slice_index b q =
    let p0 : p + 0 ≡ p = omega arith in
    let q0 : q + 0 ≡ q = omega arith in
    ap (slice_index a) (sym p0) ∙ same 0 (omega arith) ∙ ap (slice_index b) q0 in
    let tail = same_from count (suc p) (suc q) a b (λ k below.
    let p1 : suc p + k ≡ p + suc k = omega arith in
    let q1 : suc q + k ≡ q + suc k = omega arith in
    ap (slice_index a) p1 ∙ same (suc k) (omega arith) ∙ ap (slice_index b) (sym q1)) in
    λ i. head i * 256 ^ count + tail i

pub same_number : (count p q : ℕ) (a b : List ℕ) → ((k : ℕ) → k < count → slice_index a (p + k) ≡ slice_index b (q + k)) → number_at p count a ≡ number_at q count b
unfolding number_at
same_number count p q a b same = same_from count p q a b same

pub number_behind : (count place : ℕ) (bytes : List ℕ) → big_from 0 count (take (length bytes - place) (drop place bytes)) ≡ number_at place count bytes
unfolding number_at
number_behind count place bytes =
    let all : length (drop place bytes) ≤ length bytes - place = omega (arith, length-drop place bytes) in
    ap (big_from 0 count) (take_all (length bytes - place) (drop place bytes) all)
    ∙ same_from count 0 place (drop place bytes) bytes (λ k _.
    let k0 : 0 + k ≡ k = omega arith in
    ap (slice_index (drop place bytes)) k0 ∙ get_or-drop place bytes k 0)

-- the bytes after a gate, cut out
pub cut_out : (front : List ℕ) (from place k : ℕ) → from ≡ place → k < 39 → slice_index (take (from + 1 + 39 - (from + 1)) (drop (from + 1) front)) (0 + k) ≡ slice_index front (place + 1 + k)
cut_out front from place k same below =
    let count : from + 1 + 39 - (from + 1) ≡ 39 = omega arith in
    let k0 : 0 + k ≡ k = omega arith in
    rw (count, k0, get_or-take 39 (drop (from + 1) front) k 0 below, get_or-drop (from + 1) front k 0, same) refl

-- the same 39 bytes at two places
module _ (a b : List ℕ) (p q : ℕ) (same : (k : ℕ) → k < 39 → slice_index a (p + k) ≡ slice_index b (q + k)) where
  moved_number : (offset count : ℕ) → offset + count ≤ 39 → number_at (p + offset) count a ≡ number_at (q + offset) count b
  moved_number offset count inside = same_number count (p + offset) (q + offset) a b (λ k below.
      let pk : p + offset + k ≡ p + (offset + k) = omega arith in
      let qk : q + offset + k ≡ q + (offset + k) = omega arith in
      ap (slice_index a) pk ∙ same (offset + k) (omega arith) ∙ ap (slice_index b) (sym qk))

  first_number : number_at p 8 a ≡ number_at q 8 b
  first_number = same_number 8 p q a b (λ k below. same k (omega arith))

  pub moved_spelling : (header : Header) → SpellsAt a p header → SpellsAt b q header
  moved_spelling header spells = record {
    begins = sym first_number ∙ spells.begins;
    generation = sym (moved_number 8 8 (omega arith)) ∙ spells.generation;
    blocks = sym (moved_number 16 8 (omega arith)) ∙ spells.blocks;
    area = sym (moved_number 24 4 (omega arith)) ∙ spells.area;
    mode = sym (same 28 (omega arith)) ∙ spells.mode;
    first_area = sym (same 29 (omega arith)) ∙ spells.first_area;
    map_slot = sym (same 30 (omega arith)) ∙ spells.map_slot;
    base = sym (moved_number 31 8 (omega arith)) ∙ spells.base;
  }

  pub moved_bad : IsBadAt a p → IsBadAt b q
  moved_bad (another_magic wrong) = another_magic (λ layout right. wrong layout (first_number ∙ right))
  moved_bad (outside_limits layout begins outside) = outside_limits layout (sym first_number ∙ begins) (λ sizes. outside
      (subst (λ (blocks : ℕ). AreSizesOf layout blocks (number_at (p + 24) 4 a)) (sym (moved_number 16 8 (omega arith)))
      (subst (λ (area : ℕ). AreSizesOf layout (number_at (q + 16) 8 b) area) (sym (moved_number 24 4 (omega arith))) sizes)))
  moved_bad (no_mode layout begins none) = no_mode layout (sym first_number ∙ begins) (λ before_last few is. none before_last few (same 28 (omega arith) ∙ is))
  moved_bad (no_first_area layout begins above) = no_first_area layout (sym first_number ∙ begins) (subst (λ (byte : ℕ). areas_of layout ≤ byte) (same 29 (omega arith)) above)
  moved_bad (no_map_slot above) = no_map_slot (subst (λ (byte : ℕ). 1 < byte) (same 30 (omega arith)) above)

slot_within : (slot : Side) → slot_at slot ≤ 4096
slot_within Zero = omega arith
slot_within One = omega arith

-- two contents with the same bytes in both slots, up to the end of slot 1's header
module _ (a b : List ℕ) (same : (k : ℕ) → k < 4136 → slice_index a k ≡ slice_index b k) where
  same_gate : (slot : Side) → slice_index a (slot_at slot) ≡ slice_index b (slot_at slot)
  same_gate slot = let within = slot_within slot in same (slot_at slot) (omega arith)

  same_generation : (slot : Side) → generation_in a slot ≡ generation_in b slot
  same_generation slot =
      let within = slot_within slot in
      same_number 8 (slot_at slot + 9) (slot_at slot + 9) a b (λ k below. same (slot_at slot + 9 + k) (omega arith))

  same_header : (slot : Side) (k : ℕ) → k < 39 → slice_index a (slot_at slot + 1 + k) ≡ slice_index b (slot_at slot + 1 + k)
  same_header slot k below = let within = slot_within slot in same (slot_at slot + 1 + k) (omega arith)

  pub same_in_force : (slot : Side) → IsInForce a slot → IsInForce b slot
  same_in_force slot force = record {
    gate = sym (same_gate slot) ∙ force.gate;
    greatest = λ other_open.
        let less = force.greatest (same_gate (other_of slot) ∙ other_open) in
        let this = same_generation slot in
        let other = same_generation (other_of slot) in
        omega arith;
  }

  same_equal : AreEqual a → AreEqual b
  same_equal equal = record {
    zero_open = sym (same_gate Zero) ∙ equal.zero_open;
    one_open = sym (same_gate One) ∙ equal.one_open;
    same = sym (same_generation Zero) ∙ equal.same ∙ same_generation One;
  }

  same_bad : (size : ℕ) → IsBad a size → IsBad b size
  same_bad size (equal_generations equal) = equal_generations (same_equal equal)
  same_bad size (no_header_there slot force bad) =
      no_header_there slot (same_in_force slot force) (moved_bad a b (slot_at slot + 1) (slot_at slot + 1) (same_header slot) bad)
  same_bad size (another_size slot header force spells other) =
      another_size slot header (same_in_force slot force) (moved_spelling a b (slot_at slot + 1) (slot_at slot + 1) (same_header slot) header spells) other

  pub same_reading : (size : ℕ) (result : Result (Header × Side) HeaderFault) → IsReading a size result → IsReading b size result
  same_reading size (Ok current) holds = record {
    room = holds.room;
    in_force = same_in_force current.1 holds.in_force;
    spelled = moved_spelling a b (slot_at current.1 + 1) (slot_at current.1 + 1) (same_header current.1) current.0 holds.spelled;
    whole = holds.whole;
  }
  same_reading size (Err NoHeader) none = elim none [
    | inl short ↦ inl short
    | inr closed ↦ inr (λ slot is_open. closed slot (same_gate slot ∙ is_open))
  ]
  same_reading size (Err BadHeader) bad = (bad.0, same_bad size bad.1)
  same_reading size (Err DeviceFault) fault = tt
