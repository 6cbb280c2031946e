use Rattle.std.proofs.Common.{◌≡◌, arith}
use Rattle.alloc_map.specs.laws.Coded.{first_code, second_code, third_code, fourth_code}
use Rattle.alloc_map.proofs.codes.with_code.Goals as goal

pub returns-in-0 : goal.returns-in-0
returns-in-0 c = rw c.in-0.is (first_code c.args.byte c.args.code c.requires.code)

pub returns-in-1 : goal.returns-in-1
returns-in-1 c = rw c.in-1.is (second_code c.args.byte c.args.code c.requires.code)

pub returns-in-2 : goal.returns-in-2
returns-in-2 c = rw c.in-2.is (third_code c.args.byte c.args.code c.requires.code)

pub returns-in_default : goal.returns-in_default
returns-in_default c =
    let last : c.args.place ≡ 3 = omega arith in
    rw last (fourth_code c.args.byte c.args.code (omega arith) c.requires.code)
