use Rattle.std.proofs.Common.{Err, Result}
use Rattle.std.specs.Global.{Vec}
use Rattle.nbd_wire.specs.Request.{Message}
use Rattle.negotiation.specs.declared.end.End.{End}
use Rattle.negotiation.specs.declared.end.End.TheVariants.{IoFault}
use Rattle.negotiation.specs.Hearing.{Hearing, ReadsOn}
use Rattle.negotiation.proofs.DataFilled.{as_fault, failed, filled_none, filled_some, said_room}
use Rattle.negotiation.proofs.hear.fill.Goals as goal

pub returns-in_err-fill_some-clause-hearing : goal.returns-in_err-fill_some-clause-hearing
returns-in_err-fill_some-clause-hearing g c = λ output given none.
    let input = g.R.Read.remaining c.args.input.now in
    let left = g.R.Read.remaining c.fill_some.new.input in
    let old = c.args.session.now in
    let new = c.fill_some.new.session in
    let err = c.in_err-fill_some.ensures.err in
    as_fault (λ (r : Result (Vec Message) End). Hearing old (ReadsOn old input left) output output r new) given c.from_residual.result c.from_residual.ensures.1
    (failed old new input left output (Err IoFault) (said_room old.standing c.requires) err.0 err.1 tt)

pub returns-then-branch-eq0-clause-hearing : goal.returns-then-branch-eq0-clause-hearing
returns-then-branch-eq0-clause-hearing g c = λ output given none.
    filled_none c.args.session.now c.fill_some.new.session (g.R.Read.remaining c.args.input.now) (g.R.Read.remaining c.fill_some.new.input) c.in_ok-fill_some.field-0 c.in_ok-fill_some.ensures.ok output

pub returns-clause-hearing : goal.returns-clause-hearing
returns-clause-hearing g c = λ output given none.
    filled_some c.args.session.now c.fill_some.new.session (g.R.Read.remaining c.args.input.now) (g.R.Read.remaining c.fill_some.new.input) c.in_ok-fill_some.field-0 c.in_ok-fill_some.ensures.ok output given none
