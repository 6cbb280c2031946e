use Rattle.alloc_map.specs.laws.States.{own_states}
use Rattle.alloc_map.proofs.map.AllocMap.to_bytes.Goals as goal

pub returns : goal.returns
returns c = rw (c.in_ok-copied.ensures.items, c.deref.ensures.value) (own_states _ _ _ c.self.invariant c.self.view_is)
