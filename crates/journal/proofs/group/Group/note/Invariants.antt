use Rattle.std.proofs.Common.{◌≡◌, ◌++◌, ◌+◌, map, take}
use Rattle.std.specs.Prelude.{sum_by}
use Rattle.image_model.specs.Change.{change_of}
use Rattle.image_model.specs.Command.{body_of}
use Rattle.journal_format.specs.Touches.{touched_by_changes}
use Rattle.journal.proofs.group.Group.note.Given as goal

abbrev pub invariant-loop-command : goal.invariant-loop-command
invariant-loop-command l = record {
  place : l.place ≡ l.initial.place + sum_by body_of (take l.command-index l.self.commands);
  noted : l.touched.items ≡ l.fn.touched.items ++ touched_by_changes l.initial.place (map change_of (take l.command-index l.self.commands));
}
