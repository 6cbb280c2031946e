use Rattle.negotiation.specs.laws.OneHearing.{one_hearing_lem}
use Rattle.negotiation.proofs.laws.one_hearing.Goals as goal

pub returns : goal.returns
returns c = one_hearing_lem
