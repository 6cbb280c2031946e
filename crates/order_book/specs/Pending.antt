-- commands that wait for a group
use Rattle.std.specs.Prelude.{ℕ, ◌≤◌, List}
use Rattle.image_model.specs.declared.command.Command.{Command}
use Rattle.image_model.specs.Command.{body_of}

-- commands in their order, and how many more there is room for
pub record Waiting : Type 0 where
  pub commands : List Command
  pub spare : ℕ

-- the most bytes that a command takes in a group: a put of 257 blocks, and the 13 before them
abbrev pub most_body : ℕ
most_body = 1052685

-- the command takes no more of them
abbrev pub HasSmallBody : Command → Type 0
HasSmallBody command = body_of command ≤ most_body
