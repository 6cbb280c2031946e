use Rattle.nbd_wire.specs.laws.Streams.{whole_stream_lem, first_of_stream_lem, any_pieces_lem}
use Rattle.nbd_wire.proofs.laws.any_pieces.Goals as goal

pub returns-clause-whole : goal.returns-clause-whole
returns-clause-whole c = whole_stream_lem

pub returns-clause-first : goal.returns-clause-first
returns-clause-first c = first_of_stream_lem

pub returns-clause-same : goal.returns-clause-same
returns-clause-same c = any_pieces_lem
