-- what is kept for the nodes of a ring
use Rattle.std.specs.Prelude.{ℕ, ◌<◌, List, length, map, Option, None, Some}
use Rattle.frame_pool.specs.declared.nodes.Node.{Node}
use Rattle.frame_pool.specs.Cells.{IsWritten}
use Rattle.frame_pool.specs.Numbers.{option_of}

-- for each node the one after it, the one before it, and its number or none
pub record NodesState : Type 0 where
  pub next : List ℕ
  pub previous : List ℕ
  pub numbers : List (Option ℕ)

abbrev pub next_in : Option Node → ℕ
next_in None = 0
next_in (Some node) = node.next

abbrev pub previous_in : Option Node → ℕ
previous_in None = 0
previous_in (Some node) = node.previous

abbrev pub number_in : Option Node → Option ℕ
number_in None = None
number_in (Some node) = option_of node.number

abbrev pub nodes_of : List (Option Node) → NodesState
nodes_of cells = record { next = map next_in cells; previous = map previous_in cells; numbers = map number_in cells }

abbrev pub AreWritten : List (Option Node) → Type 0
AreWritten cells = (node : ℕ) → node < length cells → IsWritten cells node
