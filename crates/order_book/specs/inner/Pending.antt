-- Definitions for contracts between functions of this crate, next to those of `Pending`.
use Rattle.std.specs.Prelude.{ℕ, ◌≤◌, ◌<◌, List, length, take}
use Rattle.image_model.specs.declared.command.Command.{Command}
use Rattle.image_model.specs.Command.{bodies_of}

-- this many commands fit into the limit, and no more of them do
pub record IsLongest (limit : ℕ) (commands : List Command) (count : ℕ) : Type 0 where
  pub within : count ≤ length commands
  pub fits : bodies_of (take count commands) ≤ limit
  pub longest : (more : ℕ) → count < more → more ≤ length commands → limit < bodies_of (take more commands)
