use Rattle.alloc_map.specs.laws.States.{own_states}
use Rattle.alloc_map.proofs.map.AllocMap.bytes.Goals as goal

pub returns : goal.returns
returns c = rw c.deref.ensures.value (own_states _ _ _ c.self.invariant c.self.view_is)
