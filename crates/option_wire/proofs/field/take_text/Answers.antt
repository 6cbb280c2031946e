use Rattle.std.proofs.Common.{arith, rules}
use Rattle.option_wire.specs.laws.Texts.{no_number, no_text, text_of}
use Rattle.option_wire.proofs.field.take_text.Goals as goal

pub returns-in_err-len-clause-none : goal.returns-in_err-len-clause-none
returns-in_err-len-clause-none c = rw c.from_residual.ensures (λ text rest fits same. no_number c.args.bytes.now text rest (omega (arith, c.in_err-len.ensures.none)) same)

pub returns-then-rest-len-clause-none : goal.returns-then-rest-len-clause-none
returns-then-rest-len-clause-none c text rest fits same =
    no_text c.args.bytes.now c.in_ok-len.rest.now text rest c.in_ok-len.len c.in_ok-len.ensures.fits (search rules) c.if-rest-len.true fits same

pub returns-clause-found : goal.returns-clause-found
returns-clause-found c = search (rules, text_of)
