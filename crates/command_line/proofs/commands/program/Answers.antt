use Rattle.std.proofs.Common.{Ok}
use Rattle.std.proofs.lemmas.Result.{IfOk-weaker}
use Rattle.command_line.proofs.Builders.{joins}
use Rattle.command_line.proofs.commands.program.Goals as goal

pub returns : goal.returns
returns c =
    let one = joins (Ok c.new_program.result) c.add_subcommand-command.result _ _ c.new_program.ensures c.add_subcommand-command.ensures in
    let two = joins c.add_subcommand-command.result c.add_subcommand-command-2.result _ _ one c.add_subcommand-command-2.ensures in
    let three = joins c.add_subcommand-command-2.result c.add_subcommand-command-3.result _ _ two c.add_subcommand-command-3.ensures in
    let four = joins c.add_subcommand-command-3.result c.add_subcommand-command-4.result _ _ three c.add_subcommand-command-4.ensures in
    let five = joins c.add_subcommand-command-4.result c.add_subcommand-command-5.result _ _ four c.add_subcommand-command-5.ensures in
    let six = joins c.add_subcommand-command-5.result c.add_subcommand-command-6.result _ _ five c.add_subcommand-command-6.ensures in
    let seven = joins c.add_subcommand-command-6.result c.add_subcommand-command-7.result _ _ six c.add_subcommand-command-7.ensures in
    let eight = joins c.add_subcommand-command-7.result c.add_subcommand-command-8.result _ _ seven c.add_subcommand-command-8.ensures in
    let nine = joins c.add_subcommand-command-8.result c.add_subcommand-command-9.result _ _ eight c.add_subcommand-command-9.ensures in
    IfOk-weaker c.add_subcommand.result _ _ (λ whole made. (_, _, made)) (joins c.add_subcommand-command-9.result c.add_subcommand.result _ _ nine c.add_subcommand.ensures)
