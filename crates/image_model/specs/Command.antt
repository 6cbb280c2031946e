-- what a write command is, and the bytes it takes in a group, by docs/FORMATS.md, "Group"
use Rattle.std.specs.Prelude.{ℕ, List, sum_by}
pub use Rattle.image_model.specs.Change.{IsCleared}
use Rattle.image_model.specs.Change.{IsChange, change_of}
use Rattle.image_model.specs.Bodies.{body_bytes}
use Rattle.image_model.specs.declared.command.Command.{Command}

-- the bytes that a command takes in a group
abbrev pub body_of : Command → ℕ
body_of command = body_bytes (change_of command)

-- the bytes that commands take in a group
abbrev pub bodies_of : List Command → ℕ
bodies_of commands = sum_by body_of commands

-- a command that an image of this many blocks takes
abbrev pub IsCommand : ℕ → Command → Type 0
IsCommand image command = IsChange image (change_of command)
