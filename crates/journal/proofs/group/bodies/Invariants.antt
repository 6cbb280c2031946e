use Rattle.std.proofs.Common.{◌≡◌, take}
use Rattle.std.specs.Prelude.{sum_by}
use Rattle.image_model.specs.Command.{body_of}
use Rattle.journal.proofs.group.bodies.Given as goal

abbrev pub invariant-loop-command : goal.invariant-loop-command
invariant-loop-command l = l.sum ≡ sum_by body_of (take l.command-index l.commands)
