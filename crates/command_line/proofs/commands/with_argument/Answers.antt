use Rattle.command_line.proofs.Builders.{argument_added}
use Rattle.command_line.proofs.commands.with_argument.Goals as goal

pub returns : goal.returns
returns c = argument_added c.args.command c.arg.result c.in_ok-argument_of.field-0 c.args.row.now c.in_ok-argument_of.ensures c.arg.ensures
