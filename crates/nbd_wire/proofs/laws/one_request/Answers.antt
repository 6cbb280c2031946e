use Rattle.nbd_wire.specs.laws.Requests.{one_request_lem}
use Rattle.nbd_wire.proofs.laws.one_request.Goals as goal

pub returns : goal.returns
returns c = one_request_lem
