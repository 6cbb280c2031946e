use Rattle.command_line.specs.Size.{plain, kilo, mega, giga, tera}
use Rattle.std.proofs.Common.{[], sym}
use Rattle.std.proofs.lemmas.List.{append-nil}
use Rattle.command_line.proofs.Sizes.{lettered}
use Rattle.command_line.proofs.size.split_unit.Goals as goal

pub returns-in-Some : goal.returns-in-Some
returns-in-Some c = lettered c.args.text.now c.in-Some.digits.now 75 107 1024 kilo kilo c.in-Some.ensures

pub returns-in-Some-without : goal.returns-in-Some-without
returns-in-Some-without c = lettered c.args.text.now c.in-Some-without.digits.now 77 109 1048576 mega mega c.in-Some-without.ensures

pub returns-in-Some-without-2 : goal.returns-in-Some-without-2
returns-in-Some-without-2 c = lettered c.args.text.now c.in-Some-without-2.digits.now 71 103 1073741824 giga giga c.in-Some-without-2.ensures

pub returns-in-Some-without-3 : goal.returns-in-Some-without-3
returns-in-Some-without-3 c = lettered c.args.text.now c.in-Some-without-3.digits.now 84 116 1099511627776 tera tera c.in-Some-without-3.ensures

pub returns : goal.returns
returns c = record { letter = []; parts = sym (append-nil c.args.text.now); is = plain }
