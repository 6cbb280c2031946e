use Rattle.std.proofs.Common.{◌≡◌, drop}
use Rattle.clap.specs.Words.{app_of}
use Rattle.command_line.specs.inner.Rows.{app_of_row, with_rows}
use Rattle.command_line.proofs.commands.subcommand.Given as goal

-- the rows that are left make the command whole
abbrev pub invariant-loop-argument : goal.invariant-loop-argument
invariant-loop-argument l = with_rows (app_of l.command) (drop l.argument-index l.argument-items) ≡ app_of_row l.row
