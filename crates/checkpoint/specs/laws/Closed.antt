-- A device whose header gates are closed: no crash leaves an image on it, and writes after the gates keep it so.
use Rattle.std.proofs.Common.{◌≡◌, inr, ℕ, ◌+◌, ◌≤◌, ⊎_elim, List, length, slice_index, ◌∙◌, arith}
use Rattle.disk_model.specs.Disk.{State, InRange, IsWritten, MayLeave, MayLeaveTorn}
use Rattle.header_slots.specs.Slots.{HoldsNone, IsOpen}
use Rattle.image_model.specs.declared.side.Side.{Side}
use Rattle.image_model.specs.declared.side.Side.TheVariants.{Zero, One}
use Rattle.checkpoint.specs.Format.{AreClosed}

none_open : (content : List ℕ) → slice_index content 0 ≡ 0 → slice_index content 4096 ≡ 0 → (slot : Side) → ¬ (IsOpen content slot)
none_open content zero one Zero = λ is_open. omega (arith, zero, is_open)
none_open content zero one One = λ is_open. omega (arith, one, is_open)

pub none_held : (content : List ℕ) → slice_index content 0 ≡ 0 → slice_index content 4096 ≡ 0 → HoldsNone content (length content)
none_held content zero one = inr (none_open content zero one)

-- what a crash may leave where the gates are closed
module _ (state : State) (closed : AreClosed state) where
  pub closed_left : (content : List ℕ) → MayLeave state content → HoldsNone content (length content)
  closed_left content left = none_held content (left.same 0 closed.zero_synced ∙ closed.zero_closed) (left.same 4096 closed.one_synced ∙ closed.one_closed)

  module _ (offset count : ℕ) (behind : 1 ≤ offset) (misses : InRange offset count 4096 → ⊥) where
    pub closed_torn : (content : List ℕ) → MayLeaveTorn state offset count content → HoldsNone content (length content)
    closed_torn content left = none_held content
        (left.same 0 closed.zero_synced (λ within. omega (arith, within.0, behind)) ∙ closed.zero_closed)
        (left.same 4096 closed.one_synced misses ∙ closed.one_closed)

  pub closed_written : (offset : ℕ) (bytes : List ℕ) (after : State) → 1 ≤ offset → (InRange offset (length bytes) 4096 → ⊥) → IsWritten state offset bytes after → AreClosed after
  closed_written offset bytes after behind misses done = record {
    zero_closed = done.others 0 (λ within. omega (arith, within.0, behind)) (closed.steady 0) ∙ closed.zero_closed;
    one_closed = done.others 4096 misses (closed.steady 4096) ∙ closed.one_closed;
    zero_synced = λ unsynced. ⊎_elim closed.zero_synced (λ within. omega (arith, within.0, behind)) (done.unsynced 0 unsynced);
    one_synced = λ unsynced. ⊎_elim closed.one_synced misses (done.unsynced 4096 unsynced);
    steady = λ place loose. closed.steady place (done.loose place loose);
  }
