use Rattle.std.proofs.lemmas.Result.{err_from_is_err_and}
use Rattle.option_wire.proofs.Counts.{same_fault}
use Rattle.option_wire.specs.laws.Texts.{behind_text}
use Rattle.option_wire.proofs.option.read_context.Goals as goal

pub returns-in_err-queries-clause-none : goal.returns-in_err-queries-clause-none
returns-in_err-queries-clause-none c malformed asked is same =
    let p = err_from_is_err_and c.from_residual.result c.from_residual.ensures.1 in
    let rest = behind_text c.args.bytes.now c.in-Some.name.now c.in-Some.rest.now asked.name _ c.in-Some.ensures.fits is.0 c.in-Some.ensures.found same in
    c.in_err-queries.ensures.none (same_fault c.from_residual.result p.0 _ p.1 p.2 malformed) asked.queries is.1 rest
