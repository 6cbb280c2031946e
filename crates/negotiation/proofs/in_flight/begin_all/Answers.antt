use Rattle.std.proofs.Common.{subst, sym}
use Rattle.negotiation.specs.Dialog.{HasNoDisc}
use Rattle.negotiation.proofs.Answering.{before_last, none_turned}
use Rattle.negotiation.proofs.in_flight.begin_all.Goals as goal

pub loop-request-init : goal.loop-request-init
loop-request-init g c = record { no_disc = subst HasNoDisc (sym c.reverse.ensures.items) (none_turned c.args.requests.items c.requires.no_disc) }
