use Rattle.std.proofs.Common.{◌+◌, arith}
use Rattle.header_slots.specs.Slots.{slot_at, no_header_there, another_size}
use Rattle.header_slots.specs.laws.Frame.{cut_out, moved_spelling, moved_bad}
use Rattle.header_slots.proofs.slots.current_in.Goals as goal

pub returns-clause-reading : goal.returns-clause-reading
returns-clause-reading c = record {
  room = c.requires.size;
  in_force = c.in_ok-slot.ensures;
  spelled = moved_spelling _ c.args.front.now 0 (slot_at c.in_ok-slot.slot + 1) (λ k below. cut_out c.args.front.now _ _ k c.slot_from.ensures below) c.in-Some.header c.in-Some.ensures;
  whole = omega arith;
}

pub returns-in_default-clause-reading : goal.returns-in_default-clause-reading
returns-in_default-clause-reading c = (
  c.requires.size,
  no_header_there c.in_ok-slot.slot c.in_ok-slot.ensures
      (moved_bad _ c.args.front.now 0 (slot_at c.in_ok-slot.slot + 1) (λ k below. cut_out c.args.front.now _ _ k c.slot_from.ensures below) c.in_default.ensures),
)

pub returns-then-device_bytes-size-clause-reading :
    goal.returns-then-device_bytes-size-clause-reading
returns-then-device_bytes-size-clause-reading c = (
  c.requires.size,
  another_size c.in_ok-slot.slot c.in-Some.header c.in_ok-slot.ensures
      (moved_spelling _ c.args.front.now 0 (slot_at c.in_ok-slot.slot + 1) (λ k below. cut_out c.args.front.now _ _ k c.slot_from.ensures below) c.in-Some.header c.in-Some.ensures)
      (λ same. omega arith),
)
