-- What is heard of bytes that are read straight into the room of a request's data.
use Rattle.std.proofs.Common.{◌≡◌, ℕ, ◌<◌, ◌≤◌, List, [], ◌++◌, Option, Some, None, Result, Ok, Err, inl, inr, refl, sym, subst, ◌∙◌, length, arith}
use Rattle.std.specs.Global.{Vec}
use Rattle.std.specs.Io.KnownBytes.{Consumes, Keeps}
use Rattle.std.specs.Prelude.{IsErrAnd}
use Rattle.nbd_wire.specs.Request.{Message}
use Rattle.negotiation.specs.Dialog.{Standing, broken, ended, exhausted, in_discard, in_flags, in_head, in_option, in_requests, silent}
use Rattle.negotiation.specs.Session.{Fills, IsOpen, IsSaid, SessionState, room_of}
use Rattle.negotiation.specs.declared.end.End.{End}
use Rattle.negotiation.specs.declared.end.End.TheVariants.{IoFault, NoMemory, PeerClosed}
use Rattle.negotiation.specs.laws.Dialogs.{hears_none}
use Rattle.nbd_wire.specs.laws.Bytes.{appends_none}
use Rattle.negotiation.specs.Hearing.{Hearing, IsTimely, ReadsOn, Tells, piece_bytes}
use Rattle.negotiation.specs.inner.Hearing.{as_outcome}
use Rattle.negotiation.proofs.Hearing.{consumes_failed, no_greeting}

-- where there is room something was said
pub said_room : (standing : Standing) → 1 < room_of standing → IsSaid standing
said_room silent room = absurd (omega arith)
said_room (in_flags bytes) room = tt
said_room (in_head bytes) room = tt
said_room (in_option code size bytes) room = tt
said_room (in_discard code missing) room = tt
said_room (in_requests reader) room = tt
said_room ended room = tt
said_room broken room = tt
said_room exhausted room = tt

pub as_fault : (P : Result (Vec Message) End → Type 0) (given : Vec Message) (outcome : Result (Unit {0}) End) → IsErrAnd outcome (λ end. end ≡ IoFault) → P (Err IoFault) → P (as_outcome given outcome)
as_fault P given (Ok done) is holds = elim is [ ]
as_fault P given (Err end) is holds = subst (λ (e : End). P (Err e)) (sym is) holds

-- nothing was read
pub failed : (old new : SessionState) (input left output : Option (List ℕ)) (outcome : Result (Vec Message) End) → IsSaid old.standing → new ≡ old → Keeps input left → Tells [] [] [] old old outcome → Hearing old (ReadsOn old input left) output output outcome new
failed old new input left output outcome said same kept tell =
    subst (λ (s : SessionState). Hearing old (ReadsOn old input left) output output outcome s) (sym same) (record {
      stream = [];
      unheard = [];
      turns = [];
      requests = [];
      between = old;
      text = [];
      unsent = [];
      read = (consumes_failed input left kept, inl refl);
      hears = hears_none old;
      begins = subst (λ (t : List ℕ). t ++ [] ≡ []) (sym (no_greeting old.standing old.standing said)) refl;
      written = appends_none output;
      offer = refl;
      said = λ b. b;
      behind = λ b. (refl, refl, b);
      tells = tell;
    })

module _ (old new : SessionState) (input left : Option (List ℕ)) (count : ℕ) (fills : Fills old input left count new) where
  filled_whole : (fills.feeds.rest ≡ []) × (new ≡ fills.feeds.between)
  filled_whole = elim fills.feeds.whole [
    | inl end ↦ let ends : None ≡ Some NoMemory = sym fills.going.0 ∙ end.0 in cc ends
    | inr all ↦ all
  ]

  -- what is read into the room leaves the session open
  filled_timely : IsTimely old (fills.feeds.first ++ fills.feeds.rest)
  filled_timely = record {
    front = fills.feeds.first;
    last = fills.feeds.rest;
    turns = fills.feeds.turns;
    requests = [];
    between = fills.feeds.between;
    parts = refl;
    short = subst (λ (bytes : List ℕ). length bytes ≤ piece_bytes) (sym filled_whole.0) (omega arith);
    hears = fills.feeds.hears;
    going = subst (λ (s : SessionState). IsOpen s.standing) filled_whole.1 fills.going;
  }

  filled : (output : Option (List ℕ)) (outcome : Result (Vec Message) End) → Tells [] [] fills.feeds.rest fills.feeds.between new outcome → Hearing old (ReadsOn old input left) output output outcome new
  filled output outcome tell = record {
    stream = fills.feeds.first;
    unheard = fills.feeds.rest;
    turns = fills.feeds.turns;
    requests = [];
    between = fills.feeds.between;
    text = [];
    unsent = [];
    read = (subst (Consumes input left) fills.feeds.parts fills.read, inr filled_timely);
    hears = fills.feeds.hears;
    begins = sym fills.feeds.written;
    written = appends_none output;
    offer = fills.offer;
    said = fills.feeds.said;
    behind = fills.feeds.behind;
    tells = tell;
  }

  pub filled_some : (output : Option (List ℕ)) (given : Vec Message) → given.items ≡ [] → Hearing old (ReadsOn old input left) output output (Ok given) new
  filled_some output given none = filled output (Ok given) (sym none, refl, inl filled_whole)

  pub filled_none : (output : Option (List ℕ)) → Hearing old (ReadsOn old input left) output output (Err PeerClosed) new
  filled_none output = filled output (Err PeerClosed) (refl, refl, filled_whole.0, filled_whole.1, fills.going)
