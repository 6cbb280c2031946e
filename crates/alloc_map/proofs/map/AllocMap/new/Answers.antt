use Rattle.alloc_map.specs.laws.States.{states_of-zeroes}
use Rattle.alloc_map.proofs.map.AllocMap.new.Goals as goal

pub returns : goal.returns
returns c =
    states_of-zeroes _ _ _ (c.in_ok-vec.ensures.items_if_clones_equal (λ _ same. same))
