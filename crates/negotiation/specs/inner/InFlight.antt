-- a session that goes on after its handshake
use Rattle.std.specs.Prelude.{ℕ, ◌≡◌, List, [], vec_len}
use Rattle.std.specs.Global.{Vec}
use Rattle.nbd_wire.specs.Request.{Message}
use Rattle.negotiation.specs.Dialog.{HasNoDisc}
use Rattle.negotiation.specs.Hearing.{piece_bytes}
use Rattle.negotiation.specs.Session.{IsBehind, SessionState}

-- Its handshake is over, requests that aren't a DISC were handed out, and nothing is due.
pub record IsTransmission (session : SessionState) (requests : List Message) (piece : Vec ℕ) (due : List ℕ) : Type 0 where
  pub over : IsBehind session.standing
  pub no_disc : HasNoDisc requests
  pub none_due : due ≡ []
  pub piece_size : vec_len piece ≡ piece_bytes
