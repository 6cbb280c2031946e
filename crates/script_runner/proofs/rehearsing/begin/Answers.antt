use Rattle.script_runner.proofs.rehearsing.begin.Goals as goal

pub returns-in-Ok-clause-keeps : goal.returns-in-Ok-clause-keeps
returns-in-Ok-clause-keeps c =
    let (found, opening) = c.in-Ok.ensures.found tt in
    let (image, stands, keeps, base, sizes, generation) = opening.outcome in
    (image, keeps)
