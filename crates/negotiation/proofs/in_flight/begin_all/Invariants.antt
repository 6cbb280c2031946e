use Rattle.std.proofs.Common.{◌≡◌, length}
use Rattle.negotiation.specs.Dialog.{HasNoDisc}
use Rattle.negotiation.proofs.in_flight.begin_all.Given as goal

-- none of the requests that are left is a DISC
abbrev pub invariant-loop-request : goal.invariant-loop-request
invariant-loop-request g l = record { no_disc : HasNoDisc l.requests.items }

abbrev pub decreases-loop-request : goal.decreases-loop-request
decreases-loop-request g l = length l.requests.items
