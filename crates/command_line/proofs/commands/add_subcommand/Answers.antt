use Rattle.std.proofs.Common.{◌≡◌}
use Rattle.clap.specs.Words.{app_of, with_subcommand}
use Rattle.command_line.specs.inner.Rows.{app_of_row}
use Rattle.command_line.proofs.Builders.{at_ok, subcommand_added}
use Rattle.command_line.proofs.commands.add_subcommand.Goals as goal

pub returns : goal.returns
returns c =
    at_ok c.args.command c.in_ok-command.field-0 (λ above whole. app_of whole ≡ with_subcommand (app_of above) (app_of_row c.args.row.now).top) c.subcommand-2.result c.in_ok-command.was
    (subcommand_added c.in_ok-command.field-0 c.in_ok-subcommand.field-0 c.subcommand-2.result c.args.row.now c.in_ok-subcommand.ensures c.subcommand-2.ensures)
