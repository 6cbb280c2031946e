use Rattle.std.proofs.Common.{◌≡◌, List, ℕ, [], vec_len}
use Rattle.negotiation.specs.Dialog.{HasNoDisc}
use Rattle.negotiation.specs.Session.{IsBehind, IsSaid, SessionState}
use Rattle.negotiation.specs.Hearing.{piece_bytes}
use Rattle.negotiation.specs.Serving.{Stands}
use Rattle.negotiation.proofs.AfterHandshake.{Transmitting}
use Rattle.negotiation.proofs.connection.transmit.Given as goal

-- requests wait, and those before them were answered
abbrev pub invariant-loop : goal.invariant-loop
invariant-loop g l = record {
  said : IsSaid l.session.standing;
  none_due : l.due.items ≡ [];
  piece : vec_len l.piece ≡ piece_bytes;
  no_disc : HasNoDisc l.requests.items;
  going : (heard : SessionState) (held : List ℕ) → Stands held l.fn.session heard → IsBehind heard.standing → l.fn.session.agreed ≡ heard.agreed
      → Transmitting (g.S.Serve.allows l.export) l.fn.session.agreed.flags heard held l.fn.requests.items l.fn.pass (g.R.Read.remaining l.fn.input) (g.W.Write.contents l.fn.output)
      l.pass (g.R.Read.remaining l.input) (g.W.Write.contents l.output) l.session l.requests.items;
}
