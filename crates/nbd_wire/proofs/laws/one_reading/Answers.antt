use Rattle.nbd_wire.specs.laws.Streams.{one_reading_lem, no_request_lem, first_requests_lem}
use Rattle.nbd_wire.proofs.laws.one_reading.Goals as goal

pub returns-clause-one : goal.returns-clause-one
returns-clause-one c = one_reading_lem

pub returns-clause-rest : goal.returns-clause-rest
returns-clause-rest c = no_request_lem

pub returns-clause-first : goal.returns-clause-first
returns-clause-first c = first_requests_lem
