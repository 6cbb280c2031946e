use Rattle.std.proofs.lemmas.Result.{IfOk-weaker}
use Rattle.negotiation.proofs.ReadIntoRoom.{hands_filled}
use Rattle.negotiation.proofs.session.fill.Goals as goal

pub returns-in-Requests-clause-ok : goal.returns-in-Requests-clause-ok
returns-in-Requests-clause-ok g c =
    rw c.in-Requests.is (IfOk-weaker c.fill-count.result _ _ (λ count fills. hands_filled c.in-Requests.reader c.fill-count.new.self _ _ count fills) c.fill-count.ensures.ok)
