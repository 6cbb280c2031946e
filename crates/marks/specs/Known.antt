-- what is known of a board, as callers see it
use Rattle.std.specs.Prelude.{ℕ, max, List, [], Option, Some, None}
use Rattle.atomic_table.specs.Seated.{TableId}
use Rattle.image_model.specs.Change.{Change}
use Rattle.marks.specs.Client.{nobody}
use Rattle.marks.specs.declared.view.Client.{Client}

-- what is told: a prefix of the history, the number of its last change, and a number that is durable
pub record Marks : Type 0 where
  pub history : List Change
  pub accepted : ℕ
  pub durable : ℕ

-- the order knows all of the history, the number of its last change, and a number up to which the image has what was stored
pub record OrderKnows : Type 0 where
  pub history : List Change
  pub accepted : ℕ
  pub base : ℕ

-- the keeper's seat knows a prefix of the history, the number of its last change, and the exact values of the durable number and of
-- the base, up to which the image has all commands
pub record KeeperKnows : Type 0 where
  pub history : List Change
  pub accepted : ℕ
  pub durable : ℕ
  pub base : ℕ

-- a number, and the change that the command makes that was accepted under it
pub record Numbered : Type 0 where
  pub number : ℕ
  pub change : Change

-- the commands that were accepted for a pass: how many they are, and the last of them
pub record OwnCommands : Type 0 where
  pub count : ℕ
  pub last : Option Numbered

-- a pass: the prefix of the history that it has seen or was told, the number of that prefix's last change, the greatest durable number
-- that it has seen or was told, its own commands, and its client
pub record PassState : Type 0 where
  pub history : List Change
  pub accepted : ℕ
  pub durable : ℕ
  pub own : OwnCommands
  pub client : Client

-- a board that has no name yet: the table, and the number with which it opens
pub record BlankState : Type 0 where
  pub board : TableId
  pub opening : ℕ

abbrev pub number_of : Option Numbered → ℕ
number_of None = 0
number_of (Some last) = last.number

-- what a pass knows: the greatest of its numbers
abbrev pub known : PassState → ℕ
known pass = max (max pass.accepted pass.durable) (number_of pass.own.last)

-- a pass that knows the number with which the board opened, has none of its own, and is nobody's
abbrev pub new_pass : ℕ → PassState
new_pass number = record { history = []; accepted = number; durable = number; own = record { count = 0; last = None }; client = nobody }

-- a pass that knows what the keeper's seat does, has no command of its own, and is nobody's
abbrev pub knowing : KeeperKnows → PassState
knowing keeper = record { history = keeper.history; accepted = keeper.accepted; durable = keeper.durable; own = record { count = 0; last = None }; client = nobody }
