use Rattle.header_slots.specs.laws.Frame.{same_reading}
use Rattle.header_slots.specs.laws.Sole.{one_slot, one_header, held_or_none, held_or_bad, none_or_bad}
use Rattle.header_slots.proofs.laws.header_laws.Goals as goal

pub returns : goal.returns
returns c = record {
  one_slot = one_slot;
  one_header = one_header;
  held_or_none = held_or_none;
  held_or_bad = held_or_bad;
  none_or_bad = none_or_bad;
  same_reading = same_reading;
}
