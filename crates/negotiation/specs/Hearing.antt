-- What a session reads from a stream and writes for the handshake, and how that ended.
use Rattle.std.specs.Prelude.{ℕ, ◌≡◌, ◌⊎◌, ◌<◌, ◌≤◌, List, [], ◌++◌, Option, Some, Result, Ok, Err, length, vec_len}
use Rattle.std.specs.Global.{Vec}
use Rattle.std.specs.Io.KnownBytes.{Appends, Consumes}
use Rattle.nbd_wire.specs.Request.{Message}
use Rattle.negotiation.specs.Dialog.{Turn, answers_text}
use Rattle.negotiation.specs.Session.{HearsOn, IsBehind, IsOpen, IsSaid, SessionState, end_of, greeting_due}
use Rattle.negotiation.specs.declared.end.End.{End}
use Rattle.negotiation.specs.declared.end.End.TheVariants.{IoFault, NoMemory, PeerClosed, ProtocolEnd}

-- the most bytes that are read into a piece
abbrev pub piece_bytes : ℕ
piece_bytes = 65536

-- All but the last of these bytes, one piece at most, leave the session open.
pub record IsTimely (old : SessionState) (bytes : List ℕ) : Type 0 where
  pub front : List ℕ
  pub last : List ℕ
  pub turns : List Turn
  pub requests : List Message
  pub between : SessionState
  pub parts : bytes ≡ front ++ last
  pub short : length last ≤ piece_bytes
  pub hears : HearsOn old front turns requests between
  pub going : IsOpen between.standing

-- A session read these bytes off a stream, all but a last piece of them while it was open.
abbrev pub ReadsOn : SessionState → Option (List ℕ) → Option (List ℕ) → List ℕ → Type 0
ReadsOn old input left bytes = Consumes input left bytes × ((bytes ≡ []) ⊎ IsTimely old bytes)

-- What an outcome says. At Ok all replies are written, and all bytes were heard, but where memory ran out after the requests
-- that are handed out. If memory ran out, or a stream failed, it says nothing of the input.
abbrev pub Tells : List Message → List ℕ → List ℕ → SessionState → SessionState → Result (Vec Message) End → Type 0
Tells requests unsent unheard between new (Ok handed) =
    (requests ≡ handed.items) × (unsent ≡ []) × (((unheard ≡ []) × (new ≡ between)) ⊎ ((end_of new.standing ≡ Some NoMemory) × (0 < vec_len handed) × (new.agreed ≡ between.agreed) × IsBehind between.standing))
Tells requests unsent unheard between new (Err NoMemory) = end_of new.standing ≡ Some NoMemory
Tells requests unsent unheard between new (Err PeerClosed) =
    (requests ≡ []) × (unsent ≡ []) × (unheard ≡ []) × (new ≡ between) × IsOpen new.standing
Tells requests unsent unheard between new (Err ProtocolEnd) =
    (requests ≡ []) × (unsent ≡ []) × (unheard ≡ []) × (new ≡ between) × (end_of new.standing ≡ Some ProtocolEnd)
Tells requests unsent unheard between new (Err IoFault) = Unit {0}

-- A session read these bytes and heard the first of them, and of the greeting, where it is due, and the replies to the options
-- in them some first part was written. After the handshake there is none of it.
pub record Hearing (old : SessionState) (IsRead : List ℕ → Type 0) (output made : Option (List ℕ)) (outcome : Result (Vec Message) End) (new : SessionState) : Type 0 where
  pub stream : List ℕ
  pub unheard : List ℕ
  pub turns : List Turn
  pub requests : List Message
  pub between : SessionState
  pub text : List ℕ
  pub unsent : List ℕ
  pub read : IsRead (stream ++ unheard)
  pub hears : HearsOn old stream turns requests between
  pub begins : greeting_due old.standing between.standing ++ answers_text turns ≡ text ++ unsent
  pub written : Appends output made text
  pub offer : new.offer ≡ old.offer
  pub said : IsSaid old.standing → IsSaid between.standing
  pub behind : IsBehind old.standing → (turns ≡ []) × (between.agreed ≡ old.agreed) × IsBehind between.standing
  pub tells : Tells requests unsent unheard between new outcome
