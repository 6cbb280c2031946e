use Rattle.std.proofs.Common.{◌∙◌}
use Rattle.header_slots.specs.laws.Frame.{number_behind}
use Rattle.header_slots.proofs.header.u32_at.Goals as goal

pub returns : goal.returns
returns c = c.read_u32.ensures ∙ number_behind 4 c.args.place c.args.bytes.now
