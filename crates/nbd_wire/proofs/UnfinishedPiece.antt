-- A piece that ends neither a head nor data: no request comes of it, and no fault.
use Rattle.std.proofs.Common.{◌≡◌, ℕ, ◌<◌, ◌≤◌, ◌⊎◌, inl, inr, List, [], length, take, drop, ap, ◌∙◌, length-take, arith}
use Rattle.std.specs.Prelude.{min}
use Rattle.std.proofs.lemmas.List.{take_all, drop_all}
use Rattle.nbd_wire.specs.declared.stream.State.{State}
use Rattle.nbd_wire.specs.declared.stream.State.TheVariants.{Head, Data, Discard, Failed}
use Rattle.nbd_wire.specs.Request.{Message}
use Rattle.nbd_wire.specs.Stream.{reading, missing_len}
use Rattle.nbd_wire.specs.State.{kept, IsState}
use Rattle.nbd_wire.specs.inner.State.{wanted_of, IsGoing}

-- the whole piece is still to be read, or none of it
pub record Quiet (piece behind : List ℕ) (old new : State) (requests : List Message) : Type 0 where
  pub none : requests ≡ []
  pub place : ((behind ≡ piece) × (new ≡ old)) ⊎ ((behind ≡ []) × IsGoing (reading (kept new)))

missing_le : (state : State) → IsState state → missing_len (reading (kept state)) ≤ wanted_of state
missing_le (Head bytes count) sound = omega (arith, length-take count bytes, sound.0, sound.1)
missing_le (Data head bytes) sound = omega arith
missing_le (Discard head count) sound = omega arith
missing_le (Failed fault) sound = omega arith

-- a step takes all of it, and says of it what it says of a part
pub Quiet-next : (piece rest front behind : List ℕ) (old between : State) (requests : List Message) (Q : Type 0) (count : ℕ) → length piece < missing_len (reading (kept old))
    → Quiet piece rest old between requests → 0 < length rest → IsState between → count ≡ min (length rest) (wanted_of between) → front ≡ take count rest → behind ≡ drop count rest
    → (length front < missing_len (reading (kept between)) → Q) → (behind ≡ []) × Q
Quiet-next piece rest front behind old between requests Q count part quiet some sound count_is front_is behind_is step =
    elim quiet.place [
      | inl same ↦
          let part' : length rest < missing_len (reading (kept between)) = rw (same.0, same.1) part in
          let all : length rest ≤ count = omega (arith, part', missing_le between sound, count_is) in
          let front_all : front ≡ rest = front_is ∙ take_all count rest all in
          (behind_is ∙ drop_all count rest all, step (rw front_all part'))
      | inr done ↦ absurd (omega (arith, some, ap length done.0))
    ]

going : (state : State) → 0 < missing_len (reading (kept state)) → IsGoing (reading (kept state))
going (Head bytes count) more = tt
going (Data head bytes) more = tt
going (Discard head count) more = tt
going (Failed fault) more = absurd (omega arith)
