use Rattle.std.proofs.Common.{Some, arith}
use Rattle.std.proofs.lemmas.Str.Pattern.{split_parts}
use Rattle.command_line.proofs.Intervals.{alone, parted}
use Rattle.command_line.proofs.seconds.millis_of.Goals as goal

pub returns-in_ok-thousandths-in-Some : goal.returns-in_ok-thousandths-in-Some
returns-in_ok-thousandths-in-Some c =
    let parts = split_parts 46 c.args.text.now (Some (c.in-Some.before, c.in-Some.behind)) c.in-Some.ensures.cases (omega arith) in
    parted c.args.text.now c.in-Some.before.now c.in-Some.behind.now c.in_ok-whole-in-Some.field-0 c.in_ok-thousandths-in-Some.field-0 c.checked_add.result parts.0 c.in_ok-whole-in-Some.ensures
    c.in_ok-thousandths-in-Some.ensures c.checked_add.ensures

pub returns-in-None : goal.returns-in-None
returns-in-None c = alone c.args.text.now c.whole-in-None.result c.whole-in-None.ensures
