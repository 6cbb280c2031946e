use Rattle.std.proofs.Common.{◌∙◌}
use Rattle.header_slots.specs.laws.Frame.{number_behind}
use Rattle.header_slots.proofs.header.u64_at.Goals as goal

pub returns : goal.returns
returns c = c.read_u64.ensures ∙ number_behind 8 c.args.place c.args.bytes.now
