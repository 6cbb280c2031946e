use Rattle.std.proofs.Common.{ℕ, ◌+◌, List, Result, Ok, Err, OnOk, OnErr, sym, subst}
use Rattle.disk_model.specs.Disk.{State, IsWritten, IsWriteFailed, LeavesOnly, MayLeaveTorn}
use Rattle.header_slots.specs.declared.header.Header.{Header}
use Rattle.image_model.specs.declared.side.Side.{Side}
use Rattle.header_slots.specs.Header.{IsBodyOf}
use Rattle.header_slots.specs.Slots.{slot_at, IsBodyWritten}
use Rattle.header_slots.proofs.slots.fill_slot.Goals as goal

body_written : {T E : Type 0} (result : Result T E) (before after : State) (slot : Side) (header : Header) (bytes : List ℕ) → IsBodyOf header bytes → OnOk result (IsWritten before (slot_at slot + 1) bytes after) → OnOk result (IsBodyWritten before slot header after)
body_written (Ok value) before after slot header bytes body written = record { bytes = bytes; body = body; written = written }
body_written (Err error) before after slot header bytes body written = tt

pub returns-clause-written : goal.returns-clause-written
returns-clause-written g c = λ honest.
    body_written c.write_at.result _ _ c.args.slot c.args.header.now c.body_of.result c.body_of.ensures
    (rw (sym c.slot_from.ensures) (c.write_at.ensures.written honest))

pub returns-clause-failed : goal.returns-clause-failed
returns-clause-failed g c = λ honest.
    let before = g.D.Disk.state c.args.disk.now in
    let after = g.D.Disk.state c.write_at.new.self in
    let Failed : ℕ → ℕ → Type 0 = λ from count. OnErr c.write_at.result (IsWriteFailed before (from + 1) count after) in
    subst (λ (from : ℕ). Failed from 4095) c.slot_from.ensures
    (subst (λ (count : ℕ). Failed c.slot_from.result count) c.body_of.ensures.size (c.write_at.ensures.failed honest))

pub returns-clause-any_moment : goal.returns-clause-any_moment
returns-clause-any_moment g c = λ honest.
    let before = g.D.Disk.state c.args.disk.now in
    let after = g.D.Disk.state c.write_at.new.self in
    let Leaves : ℕ → ℕ → Type 0 = λ from count. LeavesOnly before after (MayLeaveTorn before (from + 1) count) in
    subst (λ (from : ℕ). Leaves from 4095) c.slot_from.ensures
    (subst (λ (count : ℕ). Leaves c.slot_from.result count) c.body_of.ensures.size (c.write_at.ensures.any_moment honest))
