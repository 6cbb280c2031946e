-- linked frames
use Rattle.std.specs.Prelude.{ℕ, List, Option}
use Rattle.frame_pool.specs.Lists.{ListsState}

-- the frames in their lists, and the number of each or none
pub record LinkedState : Type 0 where
  pub linked : ListsState
  pub numbers : List (Option ℕ)
