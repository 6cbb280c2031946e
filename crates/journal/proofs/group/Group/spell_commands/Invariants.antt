use Rattle.std.proofs.Common.{◌≡◌, ◌++◌, take, length}
use Rattle.std.specs.List.{flat_map}
use Rattle.image_model.specs.Command.{bodies_of}
use Rattle.image_model.specs.Change.{change_of}
use Rattle.journal_format.specs.Spelling.{change_bytes, group_head}
use Rattle.journal.proofs.group.Group.spell_commands.Given as goal

abbrev pub invariant-loop-command : goal.invariant-loop-command
invariant-loop-command l =
    l.buffer.items ≡ group_head (bodies_of l.self.commands) l.self.first (length l.self.commands) ++ flat_map (λ command. change_bytes (change_of command)) (take l.command-index l.self.commands)
