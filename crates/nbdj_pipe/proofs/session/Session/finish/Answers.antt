use Rattle.nbdj_pipe.proofs.Causes.{end_shown}
use Rattle.nbdj_pipe.proofs.session.Session.finish.Goals as goal

pub returns-clause-world : goal.returns-clause-world
returns-clause-world g c = λ world trusted of.
    let done = c.store_all-stored.ensures.world world trusted of in
    (done.0, done.1, end_shown c.args.end c.store_all-stored.result c.outcome.result world done.0 c.outcome.ensures.told done.2)
