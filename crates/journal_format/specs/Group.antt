-- groups as callers see them
use Rattle.std.specs.Prelude.{ℕ, ◌+◌, ◌≤◌, ◌%◌, List, length}
use Rattle.image_model.specs.declared.command.Command.{Command}
use Rattle.image_model.specs.Command.{bodies_of}

-- some commands, the number of the first, and one more for each after it
pub record Numbered : Type 0 where
  pub first : ℕ
  pub commands : List Command

-- what one group may hold: at least one command, a body of at most 8,388,608 bytes, numbers of 64 bits
pub record IsGroup (first : ℕ) (commands : List Command) : Type 0 where
  pub some : 1 ≤ length commands
  pub bodies : bodies_of commands ≤ 8388608
  pub numbers : first + length commands ≤ 18446744073709551616

-- the number after a group's last; 0 where no number is left
abbrev pub number_after : Numbered → ℕ
number_after group = (group.first + length group.commands) % 18446744073709551616
