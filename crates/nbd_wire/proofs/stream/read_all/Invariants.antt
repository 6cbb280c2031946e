use Rattle.std.proofs.Common.{◌<◌, length}
use Rattle.nbd_wire.specs.State.{kept, IsState}
use Rattle.nbd_wire.specs.Stream.{reading, missing_len}
use Rattle.nbd_wire.specs.laws.Streams.{Step}
use Rattle.nbd_wire.proofs.UnfinishedPiece.{Quiet}
use Rattle.nbd_wire.proofs.stream.read_all.Given as goal

abbrev pub invariant-loop-rest : goal.invariant-loop-rest
invariant-loop-rest g l = record {
  sound : IsState l.state;
  step : Step l.piece l.rest (kept l.fn.state) (kept l.state) l.requests.items;
  part : length l.piece < missing_len (reading (kept l.fn.state)) → Quiet l.piece l.rest l.fn.state l.state l.requests.items;
}

abbrev pub decreases-loop-rest : goal.decreases-loop-rest
decreases-loop-rest g l = length l.rest
