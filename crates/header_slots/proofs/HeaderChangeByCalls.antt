-- what a change of header makes of a device's content, call by call
use Rattle.std.proofs.Common.{◌≡◌, ⊎_elim, ℕ, ◌+◌, ◌<◌, ◌≤◌, ◌⊎◌, inl, inr, List, [], ◌∷◌, slice_index, length, refl, sym, ◌∙◌, ap, arith, subst}
use Rattle.std.proofs.lemmas.Bool.{cases_eq}
use Rattle.disk_model.specs.Disk.{State, InRange, IsSound, IsStored, IsSyncedIn, MayLeave, MayLeaveTorn}
use Rattle.image_model.specs.Geometry.{device_bytes_of}
use Rattle.image_model.specs.Side.{other_of}
use Rattle.image_model.specs.declared.side.Side.{Side}
use Rattle.image_model.specs.declared.side.Side.TheVariants.{Zero, One}
use Rattle.header_slots.specs.declared.header.Header.{Header}
use Rattle.header_slots.specs.Header.{SpellsAt}
use Rattle.header_slots.specs.Number.{number_at}
use Rattle.header_slots.specs.Slots.{slot_at, generation_in, HoldsHeader, IsOpen}
use Rattle.header_slots.specs.Change.{ComesNext, IsBodyStored, IsGateClosed, IsInPlace, IsLeftOutside, LeavesClosing, LeavesEither}
use Rattle.header_slots.specs.laws.Frame.{moved_spelling, same_number}

pub twice_other : (slot : Side) → other_of (other_of slot) ≡ slot
twice_other Zero = refl
twice_other One = refl

pub slot_within : (slot : Side) → slot_at slot + 4096 ≤ 8192
slot_within Zero = omega arith
slot_within One = omega arith

-- a slot ends before the other begins
pub slots_apart : (slot : Side) → (slot_at slot + 4096 ≤ slot_at (other_of slot)) ⊎ (slot_at (other_of slot) + 4096 ≤ slot_at slot)
slots_apart Zero = inl (omega arith)
slots_apart One = inr (omega arith)

-- the first 40 bytes of the slot are the same in both
abbrev pub IsSameIn : List ℕ → List ℕ → Side → Type 0
IsSameIn a b slot = (k : ℕ) → k < 40 → slice_index b (slot_at slot + k) ≡ slice_index a (slot_at slot + k)

pub generation_of : (content : List ℕ) (slot : Side) (header : Header) → SpellsAt content (slot_at slot + 1) header → generation_in content slot ≡ header.generation
generation_of content slot header spells =
    let at : slot_at slot + 9 ≡ slot_at slot + 1 + 8 = omega arith in
    ap (λ (place : ℕ). number_at place 8 content) at ∙ spells.generation

same_spelling : (a b : List ℕ) (slot : Side) (header : Header) → IsSameIn a b slot → SpellsAt a (slot_at slot + 1) header → SpellsAt b (slot_at slot + 1) header
same_spelling a b slot header same spells =
    moved_spelling a b (slot_at slot + 1) (slot_at slot + 1)
    (λ k below.
    let at : slot_at slot + 1 + k ≡ slot_at slot + (1 + k) = omega arith in
    ap (slice_index a) at ∙ sym (same (1 + k) (omega arith)) ∙ ap (slice_index b) (sym at)) header spells

same_gate : (a b : List ℕ) (slot : Side) → IsSameIn a b slot → slice_index b (slot_at slot) ≡ slice_index a (slot_at slot)
same_gate a b slot same =
    let at : slot_at slot + 0 ≡ slot_at slot = omega arith in
    ap (slice_index b) (sym at) ∙ same 0 (omega arith) ∙ ap (slice_index a) at

-- the header stays in force where its slot stays, and the other's gate is closed or its generation smaller
pub stays_in_force : (a b : List ℕ) (size : ℕ) (header : Header) (slot : Side) → HoldsHeader a size header slot → IsSameIn a b slot
    → (IsOpen b (other_of slot) → generation_in b (other_of slot) < header.generation) → HoldsHeader b size header slot
stays_in_force a b size header slot holds same less = record {
  room = holds.room;
  in_force = record {
    gate = same_gate a b slot same ∙ holds.in_force.gate;
    greatest = λ other_open.
        let below = less other_open in
        let is = generation_of b slot header (same_spelling a b slot header same holds.spelled) in
        omega (arith, below, is);
  };
  spelled = same_spelling a b slot header same holds.spelled;
  whole = holds.whole;
}

-- the next header is in force in the other slot once its gate is open there
pub comes_in_force : (a b : List ℕ) (size : ℕ) (current header : Header) (slot : Side) → HoldsHeader a size current slot → IsSameIn a b slot → ComesNext current header
    → IsOpen b (other_of slot) → SpellsAt b (slot_at (other_of slot) + 1) header → HoldsHeader b size header (other_of slot)
comes_in_force a b size current header slot holds same next is_open spells = record {
  room = holds.room;
  in_force = record {
    gate = is_open;
    greatest = λ other_open.
        let this = generation_of b (other_of slot) header spells in
        let other = ap (generation_in b) (twice_other slot) ∙ generation_of b slot current (same_spelling a b slot current same holds.spelled) in
        let next_is = next.generation in
        omega (arith, this, other, next_is);
  };
  spelled = spells;
  whole = holds.whole ∙ ap (λ (blocks : ℕ). device_bytes_of blocks current.geometry.area) (sym next.blocks) ∙ ap (λ (area : ℕ). device_bytes_of header.geometry.blocks area) (sym next.area);
}

-- what a state has kept of an earlier one: the header in force, and all that lies outside the two slots
pub record Carries (slot : Side) (old new : State) : Type 0 where
  pub size : length new.seen ≡ length old.seen
  pub near : IsSameIn old.seen new.seen slot
  pub far : (place : ℕ) → 8192 ≤ place → (old.loose place → ⊥) → slice_index new.seen place ≡ slice_index old.seen place
  pub stable : (place : ℕ) → new.unsynced place → old.unsynced place
  pub steady : (place : ℕ) → new.loose place → old.loose place

-- the old state, as every step of a change begins with it
module _ {extent : ℕ} (slot : Side) (old : State) (sound : IsSound extent old) (synced : IsSyncedIn old 0 8192) where
  inside : (place : ℕ) → place < 8192 → old.unsynced place → ⊥
  inside place below = synced place (omega arith, omega (arith, below))

  pub sure : (place : ℕ) → place < 8192 → old.loose place → ⊥
  sure place below loose = inside place below (sound.loose place loose)

  in_slot : (k : ℕ) → k < 40 → slot_at slot + k < 8192
  in_slot k below = omega (arith, below, slot_within slot)

  apart : (k from count : ℕ) → k < 40 → slot_at (other_of slot) ≤ from → from + count ≤ slot_at (other_of slot) + 4096 → InRange from count (slot_at slot + k) → ⊥
  apart k from count below low high within = ⊎_elim
      (λ before. omega (arith, below, low, high, before, within))
      (λ behind. omega (arith, below, low, high, behind, within))
      (slots_apart slot)

  beyond : (place from count : ℕ) → 8192 ≤ place → from + count ≤ slot_at (other_of slot) + 4096 → InRange from count place → ⊥
  beyond place from count past high within = let room = slot_within (other_of slot) in omega (arith, past, high, within, room)

  -- what a write in the other slot may leave, begun in a state that carries the old one
  pub torn_outside : (mid : State) → Carries slot old mid → (from count : ℕ) → slot_at (other_of slot) ≤ from → from + count ≤ slot_at (other_of slot) + 4096
      → (content : List ℕ) → MayLeaveTorn mid from count content → IsLeftOutside old content × IsSameIn old.seen content slot
  torn_outside mid carries from count low high content torn = (
    record {
      size = torn.size ∙ carries.size;
      bytes = torn.bytes;
      same = λ place past stable.
          torn.same place (λ unsynced. stable (carries.stable place unsynced)) (beyond place from count past high)
          ∙ carries.far place past (λ loose. stable (sound.loose place loose));
    },
    λ k below.
        torn.same (slot_at slot + k) (λ unsynced. inside (slot_at slot + k) (in_slot k below) (carries.stable (slot_at slot + k) unsynced)) (apart k from count below low high)
        ∙ carries.near k below,
  )

  -- what is left where nothing was written
  pub left_outside : (content : List ℕ) → MayLeave old content → IsLeftOutside old content × IsSameIn old.seen content slot
  left_outside content left = (
    record { size = left.size; bytes = left.bytes; same = λ place past stable. left.same place stable },
    λ k below. left.same (slot_at slot + k) (inside (slot_at slot + k) (in_slot k below)),
  )

  -- once the other gate is closed
  pub carries_closed : (after : State) → IsSound extent after → IsGateClosed old (other_of slot) after → Carries slot old after
  carries_closed after after_sound closed = record {
    size = after_sound.size ∙ sym sound.size;
    near = λ k below. closed.others (slot_at slot + k) (λ same. apart k (slot_at (other_of slot)) 1 below (omega arith) (omega arith) (omega (arith, same), omega (arith, same)))
        (sure (slot_at slot + k) (in_slot k below));
    far = λ place past steady. closed.others place (λ same. beyond place (slot_at (other_of slot)) 1 past (omega arith) (omega (arith, same), omega (arith, same))) steady;
    stable = closed.unsynced;
    steady = closed.loose;
  }

  -- a write in the other slot, once it is stable
  pub carries_stored : (mid after : State) → Carries slot old mid → IsSound extent mid → IsSound extent after → (from : ℕ) (bytes : List ℕ)
      → slot_at (other_of slot) ≤ from → from + length bytes ≤ slot_at (other_of slot) + 4096 → IsStored mid from bytes after → Carries slot old after
  carries_stored mid after carries mid_sound after_sound from bytes low high stored = record {
    size = after_sound.size ∙ sym sound.size;
    near = λ k below.
        stored.others (slot_at slot + k) (apart k from (length bytes) below low high)
        (λ loose. inside (slot_at slot + k) (in_slot k below) (carries.stable (slot_at slot + k) (mid_sound.loose (slot_at slot + k) loose)))
        ∙ carries.near k below;
    far = λ place past steady.
        stored.others place (beyond place from (length bytes) past high) (λ loose. steady (carries.steady place loose))
        ∙ carries.far place past steady;
    stable = λ place unsynced. absurd (stored.synced place unsynced);
    steady = λ place loose. absurd (stored.synced place (after_sound.loose place loose));
  }

  other_inside : (k : ℕ) → k < 4096 → slot_at (other_of slot) + k < 8192
  other_inside k below = let room = slot_within (other_of slot) in omega (arith, below, room)

  -- the header in force, and the one that comes next
  module _ (size : ℕ) (current header : Header) (holds : HoldsHeader old.seen size current slot) (next : ComesNext current header) where
    smaller : (content : List ℕ) → IsOpen old.seen (other_of slot)
        → ((k : ℕ) → k < 8 → slice_index content (slot_at (other_of slot) + 9 + k) ≡ slice_index old.seen (slot_at (other_of slot) + 9 + k))
        → generation_in content (other_of slot) < current.generation
    smaller content was_open same =
        let less = holds.in_force.greatest was_open in
        let this = generation_of old.seen slot current holds.spelled in
        let other = same_number 8 (slot_at (other_of slot) + 9) (slot_at (other_of slot) + 9) content old.seen same in
        omega (arith, less, this, other)

    -- while the other gate is closed
    pub closing_either : (content : List ℕ) → LeavesClosing old (other_of slot) content → LeavesEither old size current slot header content
    closing_either content (inl left) =
        let outside = left_outside content left in
        record {
          outside = outside.0;
          either = inl (stays_in_force old.seen content size current slot holds outside.1 (λ other_open.
              smaller content
              (sym (left.same (slot_at (other_of slot)) (inside (slot_at (other_of slot)) (omega (arith, slot_within (other_of slot))))) ∙ other_open)
              (λ k below. left.same (slot_at (other_of slot) + 9 + k) (inside (slot_at (other_of slot) + 9 + k) (omega (arith, below, slot_within (other_of slot)))))));
        }
    closing_either content (inr (was_open, torn)) =
        let outside = torn_outside old (record {
          size = refl;
          near = λ k below. refl;
          far = λ place past steady. refl;
          stable = λ place unsynced. unsynced;
          steady = λ place loose. loose;
        }) (slot_at (other_of slot)) 1 (omega arith) (omega arith) content torn in
        record {
          outside = outside.0;
          either = inl (stays_in_force old.seen content size current slot holds outside.1 (λ other_open.
              smaller content was_open
              (λ k below. torn.same (slot_at (other_of slot) + 9 + k) (inside (slot_at (other_of slot) + 9 + k) (omega (arith, below, slot_within (other_of slot))))
              (λ within. omega (arith, within)))));
        }

    -- while the new header is written after the closed gate
    pub writing_either : (mid : State) → IsSound extent mid → IsGateClosed old (other_of slot) mid → (content : List ℕ)
        → MayLeaveTorn mid (slot_at (other_of slot) + 1) 39 content → LeavesEither old size current slot header content
    writing_either mid mid_sound closed content torn =
        let carries = carries_closed mid mid_sound closed in
        let outside = torn_outside mid carries (slot_at (other_of slot) + 1) 39 (omega arith) (omega arith) content torn in
        record {
          outside = outside.0;
          either = inl (stays_in_force old.seen content size current slot holds outside.1 (λ other_open.
              absurd (closed.closed (sym (torn.same (slot_at (other_of slot))
              (λ unsynced. inside (slot_at (other_of slot)) (omega (arith, slot_within (other_of slot))) (carries.stable (slot_at (other_of slot)) unsynced))
              (λ within. omega (arith, within))) ∙ other_open))));
        }

    -- the new header stands after the closed gate, and all is stable
    module _ (mid after : State) (mid_sound : IsSound extent mid) (after_sound : IsSound extent after) (closed : IsGateClosed old (other_of slot) mid)
        (body : IsBodyStored mid (other_of slot) header after) where
      carries_body : Carries slot old after
      carries_body =
          carries_stored mid after (carries_closed mid mid_sound closed) mid_sound after_sound (slot_at (other_of slot) + 1) body.bytes (omega arith)
          (let length_is = body.size in omega (arith, length_is)) body.stored

      steady_mid : (k : ℕ) → k < 4096 → mid.loose (slot_at (other_of slot) + k) → ⊥
      steady_mid k below loose = sure (slot_at (other_of slot) + k) (other_inside k below) (closed.loose (slot_at (other_of slot) + k) loose)

      spelled_after : SpellsAt after.seen (slot_at (other_of slot) + 1) header
      spelled_after =
          moved_spelling body.bytes after.seen 0 (slot_at (other_of slot) + 1)
          (λ k below.
          let k0 : 0 + k ≡ k = omega arith in
          let at : slot_at (other_of slot) + 1 + k ≡ slot_at (other_of slot) + (1 + k) = omega arith in
          let length_is = body.size in
          ap (slice_index body.bytes) k0
          ∙ sym (body.stored.written k (omega (arith, below, length_is)) (λ loose. steady_mid (1 + k) (omega (arith, below)) (subst mid.loose at loose)))) header body.spelled

      closed_after : IsOpen after.seen (other_of slot) → ⊥
      closed_after is_open =
          closed.closed (sym (body.stored.others (slot_at (other_of slot)) (λ within. omega (arith, within))
          (λ loose. sure (slot_at (other_of slot)) (omega (arith, slot_within (other_of slot))) (closed.loose (slot_at (other_of slot)) loose))) ∙ is_open)

      -- while its gate is opened
      pub opening_either : (content : List ℕ) → MayLeaveTorn after (slot_at (other_of slot)) 1 content → LeavesEither old size current slot header content
      opening_either content torn =
          let outside = torn_outside after carries_body (slot_at (other_of slot)) 1 (omega arith) (omega arith) content torn in
          record {
            outside = outside.0;
            either = ⊎_elim
                (λ is_open. inr (comes_in_force old.seen content size current header slot holds outside.1 next is_open
                (moved_spelling after.seen content (slot_at (other_of slot) + 1) (slot_at (other_of slot) + 1)
                (λ k below. sym (torn.same (slot_at (other_of slot) + 1 + k) (body.stored.synced (slot_at (other_of slot) + 1 + k)) (λ within. omega (arith, within)))) header spelled_after)))
                (λ not_open. inl (stays_in_force old.seen content size current slot holds outside.1 (λ other_open. absurd (not_open other_open))))
                (cases_eq (slice_index content (slot_at (other_of slot))) 1);
          }

      -- once it is open
      pub opened_in_place : (last : State) → IsSound extent last → IsStored after (slot_at (other_of slot)) (1 ∷ []) last → IsInPlace old size header (other_of slot) last
      opened_in_place last last_sound stored =
          let carries = carries_stored after last carries_body after_sound last_sound (slot_at (other_of slot)) (1 ∷ []) (omega arith) (omega arith) stored in
          let steady : (place : ℕ) → after.loose place → ⊥ = λ place loose. body.stored.synced place (after_sound.loose place loose) in
          let zero : slot_at (other_of slot) + 0 ≡ slot_at (other_of slot) = omega arith in
          record {
            held = comes_in_force old.seen last.seen size current header slot holds carries.near next
                (ap (slice_index last.seen) (sym zero) ∙ stored.written 0 (omega arith) (steady (slot_at (other_of slot) + 0)))
                (moved_spelling after.seen last.seen (slot_at (other_of slot) + 1) (slot_at (other_of slot) + 1)
                (λ k below. sym (stored.others (slot_at (other_of slot) + 1 + k) (λ within. omega (arith, within)) (steady (slot_at (other_of slot) + 1 + k)))) header spelled_after);
            others = carries.far;
            synced = stored.synced;
          }
