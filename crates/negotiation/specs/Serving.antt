-- What a session over streams reads, whom it asks for answers, and what it writes.
use Rattle.negotiation.specs.Answered.{Offer}
use Rattle.std.specs.Prelude.{ℕ, ◌≡◌, ◌⊎◌, List, [], ◌++◌, Option, Some, Result, Ok, Err}
use Rattle.std.specs.Io.KnownBytes.{Appends, Consumes, IsAtEnd}
use Rattle.nbd_wire.specs.Request.{Message}
use Rattle.nbd_wire.specs.declared.message.Reply.{Reply}
use Rattle.nbd_wire.specs.declared.message.SessionFlags.{SessionFlags}
use Rattle.negotiation.specs.Dialog.{Hears, Outcome, Standing, Turn, ended, handshake_text, plain, silent}
use Rattle.negotiation.specs.Session.{HearsOn, IsBehind, IsOpen, SessionState, end_of}
use Rattle.negotiation.specs.declared.end.End.{End}
use Rattle.negotiation.specs.declared.end.End.TheVariants.{IoFault, NoMemory, PeerClosed, ProtocolEnd}
use Rattle.negotiation.specs.Hearing.{IsTimely, ReadsOn}
use Rattle.negotiation.specs.Talk.{AreSteps, Exchange, answered, asked, talk_text}

-- The text that a session owes for what it heard: the handshake's, and the reply to each request.
abbrev pub dialog : List Turn → SessionFlags → List Exchange → List ℕ
dialog turns flags exchanges = handshake_text turns ++ talk_text flags exchanges

-- This text is the dialog of a stream: the options in it have their answers, and the first of its requests these replies.
pub record IsDialog (offer : Offer) (stream : List ℕ) (outcome : Outcome) (exchanges : List Exchange) (unanswered : List Message) (text : List ℕ) : Type 0 where
  pub turns : List Turn
  pub hears : Hears offer stream turns outcome
  pub requests : outcome.requests ≡ asked exchanges ++ unanswered
  pub whole : text ≡ dialog turns outcome.agreed.flags exchanges

-- the dialog is a function of the stream and of the replies
abbrev pub OneDialog : Type 0
OneDialog =
    (offer : Offer) (stream : List ℕ) (outcome other : Outcome) (exchanges others : List Exchange) (unanswered left : List Message)
    (text same : List ℕ) → IsDialog offer stream outcome exchanges unanswered text → IsDialog offer stream other others left same
    → answered exchanges ≡ answered others → (exchanges ≡ others) × (unanswered ≡ left) × (text ≡ same)

-- Everything that was read was heard, each request has its reply, and all of the text is written.
pub record IsAll (unheard unsent : List ℕ) (unanswered : List Message) : Type 0 where
  pub heard : unheard ≡ []
  pub sent : unsent ≡ []
  pub answered : unanswered ≡ []

-- How a session ended: at Ok its client ended it, and otherwise its input ended, or what it sent ends it. If memory ran out,
-- or a stream failed, that says nothing of the input.
abbrev pub Ends : Standing → List ℕ → List ℕ → List Message → Option (List ℕ) → Result (Unit {0}) End → Type 0
Ends standing unheard unsent unanswered left (Ok done) = IsAll unheard unsent unanswered × (standing ≡ ended)
Ends standing unheard unsent unanswered left (Err NoMemory) = Unit {0}
Ends standing unheard unsent unanswered left (Err PeerClosed) =
    IsAll unheard unsent unanswered × IsOpen standing × IsAtEnd left
Ends standing unheard unsent unanswered left (Err ProtocolEnd) =
    IsAll unheard unsent unanswered × (end_of standing ≡ Some ProtocolEnd)
Ends standing unheard unsent unanswered left (Err IoFault) = Unit {0}

-- a session in which nothing was said yet
abbrev pub begun : Offer → SessionState
begun offer = record { offer = offer; agreed = plain; standing = silent }

-- Of what was read a first part was heard. The first of its requests had their steps, each allowed from where the one before it
-- left the pass, and what is written is a beginning of the dialog with these replies.
pub record IsServed {P : Type 0} (allows : P → Message → SessionFlags → P → Reply → Type 0) (offer : Offer) (old new : P) (input left output made : Option (List ℕ)) (end : Result (Unit {0}) End) : Type 0 where
  pub stream : List ℕ
  pub unheard : List ℕ
  pub outcome : Outcome
  pub exchanges : List Exchange
  pub unanswered : List Message
  pub text : List ℕ
  pub unsent : List ℕ
  pub read : ReadsOn (begun offer) input left (stream ++ unheard)
  pub owed : IsDialog offer stream outcome exchanges unanswered (text ++ unsent)
  pub steps : AreSteps allows outcome.agreed.flags old exchanges new
  pub written : Appends output made text
  pub ends : Ends outcome.standing unheard unsent unanswered left end

-- all that was read was heard, or memory ran out
abbrev pub Stands : List ℕ → SessionState → SessionState → Type 0
Stands unheard now heard = ((unheard ≡ []) × (now ≡ heard)) ⊎ (end_of now.standing ≡ Some NoMemory)

-- The same after the handshake, from a session on that had handed out some requests, with these bytes still to be heard.
pub record Transmits {P : Type 0} (allows : P → Message → SessionFlags → P → Reply → Type 0) (flags : SessionFlags) (old : SessionState) (held : List ℕ) (waiting : List Message) (pass new : P) (input left output made : Option (List ℕ)) (end : Result (Unit {0}) End) : Type 0 where
  pub stream : List ℕ
  pub unheard : List ℕ
  pub taken : List ℕ
  pub more : List Message
  pub between : SessionState
  pub exchanges : List Exchange
  pub unanswered : List Message
  pub text : List ℕ
  pub unsent : List ℕ
  pub read : Consumes input left taken
  pub timely : (taken ≡ []) ⊎ ((held ≡ []) × IsTimely old taken)
  pub parts : held ++ taken ≡ stream ++ unheard
  pub hears : HearsOn old stream [] more between
  pub agreed : between.agreed ≡ old.agreed
  pub requests : waiting ++ more ≡ asked exchanges ++ unanswered
  pub steps : AreSteps allows flags pass exchanges new
  pub begins : talk_text flags exchanges ≡ text ++ unsent
  pub written : Appends output made text
  pub ends : Ends between.standing unheard unsent unanswered left end

-- whatever it had heard before
abbrev pub TransmitsOn : {P : Type 0} → (P → Message → SessionFlags → P → Reply → Type 0) → SessionState → List Message → P → P → Option (List ℕ) → Option (List ℕ) → Option (List ℕ) → Option (List ℕ) → Result (Unit {0}) End → Type 0
TransmitsOn allows now waiting pass new input left output made end =
    (heard : SessionState) (held : List ℕ) → Stands held now heard → IsBehind heard.standing → now.agreed ≡ heard.agreed
    → Transmits allows now.agreed.flags heard held waiting pass new input left output made end
