use Rattle.std.proofs.Common.{refl, rules}
use Rattle.alloc_map.specs.Map.{IsMap}
use Rattle.alloc_map.specs.laws.States.{length-states_of, own_states}
use Rattle.alloc_map.proofs.map.AllocMap.from_bytes.Goals as goal

pub returns-clause-blocks : goal.returns-clause-blocks
returns-clause-blocks c = length-states_of _ _

pub returns-clause-states : goal.returns-clause-states
returns-clause-states c =
    let good : IsMap c.args.blocks c.args.bytes.items = search rules in
    own_states _ _ _ good refl
