use Rattle.std.proofs.Common.{◌≡◌, [], vec_len}
use Rattle.negotiation.specs.Dialog.{HasNoDisc}
use Rattle.negotiation.specs.Hearing.{piece_bytes}
use Rattle.negotiation.specs.Session.{IsSaid}
use Rattle.negotiation.proofs.in_flight.Transmission.read_on.Given as goal

-- requests wait to be begun, and nothing is due
abbrev pub invariant-loop : goal.invariant-loop
invariant-loop g l = record {
  said : IsSaid l.session.standing;
  none_due : l.due.items ≡ [];
  piece : vec_len l.piece ≡ piece_bytes;
  no_disc : HasNoDisc l.requests.items;
}
