use Rattle.command_line.proofs.Builders.{row_added}
use Rattle.command_line.proofs.commands.subcommand.Goals as goal

pub loop-argument-preserved : goal.loop-argument-preserved
loop-argument-preserved c =
    row_added c.loop-argument.command c.in_ok-command.command _ c.args.row.now.arguments.now c.loop-argument.argument-index _ c.loop-argument-test.true c.loop-argument.invariant
    c.in_ok-command.ensures
