use Rattle.command_line.proofs.Intervals.{fractioned}
use Rattle.command_line.proofs.seconds.thousandths.Goals as goal

pub returns-in-Ok : goal.returns-in-Ok
returns-in-Ok c =
    let read = c.in-Ok.ensures.value.0 in
    fractioned c.args.digits.now c.in_ok-scale.scale c.in-Ok.number c.checked_mul.result c.in_ok-scale.ensures read.0.0 read.1 c.checked_mul.ensures
