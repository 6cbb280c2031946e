use Rattle.command_line.proofs.Sizes.{sized}
use Rattle.command_line.proofs.size.bytes_of.Goals as goal

pub returns-in-Ok : goal.returns-in-Ok
returns-in-Ok c =
    let read = c.in-Ok.ensures.value.0 in
    sized c.args.text.now c.split_unit-unit.result.0.now c.split_unit-unit.result.1 c.in-Ok.number c.checked_mul.result c.split_unit-unit.ensures read.0.0 read.1 c.checked_mul.ensures
