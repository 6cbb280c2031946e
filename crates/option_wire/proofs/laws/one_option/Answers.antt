use Rattle.option_wire.specs.laws.Asked.{one_option_lem, one_request_lem}
use Rattle.option_wire.proofs.laws.one_option.Goals as goal

pub returns-clause-option : goal.returns-clause-option
returns-clause-option c = one_option_lem

pub returns-clause-request : goal.returns-clause-request
returns-clause-request c = one_request_lem
