-- one node of the lists is changed
use Rattle.std.specs.Prelude.{ℕ, slice_set, Option}
use Rattle.frame_pool.specs.Nodes.{NodesState}

-- the nodes with one link or number set
abbrev pub with_next : ℕ → ℕ → NodesState → NodesState
with_next node next nodes = record nodes { next = slice_set nodes.next node next }

abbrev pub with_previous : ℕ → ℕ → NodesState → NodesState
with_previous node previous nodes = record nodes { previous = slice_set nodes.previous node previous }

abbrev pub with_number : ℕ → Option ℕ → NodesState → NodesState
with_number node number nodes = record nodes { numbers = slice_set nodes.numbers node number }
