use Rattle.std.proofs.Common.{◌≡◌, ◌<◌, Ok, Some, [], vec_len}
use Rattle.negotiation.specs.Dialog.{HasNoDisc}
use Rattle.negotiation.specs.Session.{IsBehind, IsSaid, end_of}
use Rattle.negotiation.specs.declared.end.End.{End}
use Rattle.negotiation.specs.Hearing.{Hearing, ReadsOn, piece_bytes}
use Rattle.negotiation.proofs.hear.negotiate.Given as goal

-- what came last is at hand, and before it no request came
abbrev pub invariant-loop : goal.invariant-loop
invariant-loop g l = record {
  said : IsSaid l.session.standing;
  none_due : l.due.items ≡ [];
  piece : vec_len l.piece ≡ piece_bytes;
  first : (end : End) → end_of l.session.standing ≡ Some end → 0 < vec_len l.requests;
  asks : 0 < vec_len l.requests → IsBehind l.session.standing;
  no_disc : HasNoDisc l.requests.items;
  hearing : Hearing l.fn.session (ReadsOn l.fn.session (g.R.Read.remaining l.fn.input) (g.R.Read.remaining l.input)) (g.W.Write.contents l.fn.output) (g.W.Write.contents l.output) (Ok l.requests) l.session;
}
