use Rattle.std.proofs.Common.{length, sym, ap, ◌∙◌}
use Rattle.alloc_map.specs.laws.States.{length-states_of}
use Rattle.alloc_map.proofs.map.AllocMap.blocks.Goals as goal

pub returns : goal.returns
returns c = sym (length-states_of _ _) ∙ ap length c.self.view_is
