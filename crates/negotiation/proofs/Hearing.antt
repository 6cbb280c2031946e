-- How what a session heard goes on.
use Rattle.std.proofs.Common.{◌≡◌, ◌==◌, ℕ, ◌<◌, ◌≤◌, true, false, List, [], ◌∷◌, ◌++◌, Option, Some, None, Result, Ok, Err, ◌⊎◌, inl, inr, refl, sym, ap, subst, ◌∙◌, append_assoc, length, vec_len, arith}
use Rattle.std.proofs.lemmas.Bool.Decides.{nat_tests}
use Rattle.std.proofs.lemmas.List.{append-nil}
use Rattle.std.specs.Global.{Vec}
use Rattle.std.specs.Prelude.{IfErr, IfOk, IsErrAnd}
use Rattle.std.specs.Io.KnownBytes.{Appends, Consumes, Keeps}
use Rattle.nbd_wire.specs.Request.{Message}
use Rattle.nbd_wire.specs.Stream.{failed, in_data as keeps_data, in_discard as keeps_count, in_head as keeps_head, reading, starved}
use Rattle.negotiation.specs.Dialog.{Standing, Turn, answers_text, broken, ended, exhausted, in_discard, in_flags, in_head, in_option, in_requests, silent}
use Rattle.negotiation.specs.Session.{Feeds, HearsOn, IsBehind, IsOpen, IsSaid, SessionState, end_of, greeting_due, handed}
use Rattle.negotiation.specs.declared.end.End.{End}
use Rattle.negotiation.specs.declared.end.End.TheVariants.{IoFault, NoMemory, PeerClosed, ProtocolEnd}
use Rattle.negotiation.specs.laws.Dialogs.{hears_none, hears_then}
use Rattle.negotiation.specs.Hearing.{Hearing, IsTimely, ReadsOn, Tells, piece_bytes}
use Rattle.negotiation.specs.inner.Streams.{Writes}
use Rattle.option_wire.specs.Handshake.{greeting_bytes}
use Rattle.negotiation.specs.Answered.{answer_bytes}
use Rattle.nbd_wire.specs.laws.Bytes.{appends_none, appends_on, consumes_kept, consumes_none, consumes_on}

pub no_greeting : (old new : Standing) → IsSaid old → greeting_due old new ≡ []
no_greeting silent new said = absurd said
no_greeting (in_flags bytes) new said = refl
no_greeting (in_head bytes) new said = refl
no_greeting (in_option code size bytes) new said = refl
no_greeting (in_discard code missing) new said = refl
no_greeting (in_requests reader) new said = refl
no_greeting ended new said = refl
no_greeting broken new said = refl
no_greeting exhausted new said = refl

pub due_said : (standing : Standing) → IsSaid standing → greeting_due silent standing ≡ greeting_bytes
due_said silent said = absurd said
due_said (in_flags bytes) said = refl
due_said (in_head bytes) said = refl
due_said (in_option code size bytes) said = refl
due_said (in_discard code missing) said = refl
due_said (in_requests reader) said = refl
due_said ended said = refl
due_said broken said = refl
due_said exhausted said = refl

-- once it is said it stays so
due_same : (old one other : Standing) → IsSaid one → IsSaid other → greeting_due old one ≡ greeting_due old other
due_same silent one other a b = due_said one a ∙ sym (due_said other b)
due_same (in_flags bytes) one other a b = refl
due_same (in_head bytes) one other a b = refl
due_same (in_option code size bytes) one other a b = refl
due_same (in_discard code missing) one other a b = refl
due_same (in_requests reader) one other a b = refl
due_same ended one other a b = refl
due_same broken one other a b = refl
due_same exhausted one other a b = refl

-- a session ends by what it read, or for memory
pub never_closed : (standing : Standing) → end_of standing ≡ Some PeerClosed → ⊥
never_closed silent is = cc
never_closed (in_flags bytes) is = cc
never_closed (in_head bytes) is = cc
never_closed (in_option code size bytes) is = cc
never_closed (in_discard code missing) is = cc
never_closed (in_requests (reading (keeps_head bytes))) is = cc
never_closed (in_requests (reading (keeps_data head bytes))) is = cc
never_closed (in_requests (reading (keeps_count head missing))) is = cc
never_closed (in_requests (reading (failed fault))) is = cc
never_closed (in_requests starved) is = cc
never_closed ended is = cc
never_closed broken is = cc
never_closed exhausted is = cc

other_end : (o : Option End) → o ≡ Some NoMemory → o ≡ Some ProtocolEnd → ⊥
other_end None is other = cc
other_end (Some end) is other = cc

some_items : (given : Vec Message) → given.items ≡ [] → 0 < vec_len given → ⊥
some_items given none some = omega (arith, given.ok.0, ap length none, some)

tells : (old new between : SessionState) (requests : List Message) (unsent unheard : List ℕ) (fed : Result (Vec Message) End) → requests ≡ handed fed → unsent ≡ [] → ((end_of new.standing ≡ Some NoMemory) × ((requests ≡ []) ⊎ ((new.agreed ≡ between.agreed) × IsBehind between.standing))) ⊎ ((unheard ≡ []) × (new ≡ between))
    → IfErr fed (λ end. end_of new.standing ≡ Some end) → ((end : End) → end_of new.standing ≡ Some end → IfOk fed (λ r. 0 < vec_len r)) → Tells requests unsent unheard between new fed
tells old new between requests unsent unheard (Ok given) same sent whole fault first = (
  same,
  sent,
  elim whole [
    | inl end ↦
        let still : (new.agreed ≡ between.agreed) × IsBehind between.standing =
        elim end.1 [ inl none ↦ absurd (some_items given (sym same ∙ none) (first NoMemory end.0)) | inr behind ↦ behind ] in
        inr (end.0, first NoMemory end.0, still.0, still.1)
    | inr all ↦ inl all
  ],
)
tells old new between requests unsent unheard (Err NoMemory) same sent whole fault first = fault
tells old new between requests unsent unheard (Err PeerClosed) same sent whole fault first = absurd (never_closed new.standing fault)
tells old new between requests unsent unheard (Err ProtocolEnd) same sent whole fault first =
    elim whole [ inl end ↦ absurd (other_end (end_of new.standing) end.0 fault) | inr all ↦ (same, sent, all.0, all.1, fault) ]
tells old new between requests unsent unheard (Err IoFault) same sent whole fault first = tt

module _ (old new : SessionState) (piece due left : List ℕ) (fed : Result (Vec Message) End) (output made : Option (List ℕ)) (offer : new.offer ≡ old.offer) (feeds : Feeds old piece [] due (handed fed) new) where
  -- what was due is written
  pub took : IfErr fed (λ end. end_of new.standing ≡ Some end) → ((end : End) → end_of new.standing ≡ Some end → IfOk fed (λ r. 0 < vec_len r)) → Writes output made due left true → left ≡ []
      → Hearing old (λ bytes. bytes ≡ piece) output made fed new
  took fault first writes none =
      let sent : writes.unsent ≡ [] = sym (writes.left refl) ∙ none in
      record {
        stream = feeds.first;
        unheard = feeds.rest;
        turns = feeds.turns;
        requests = handed fed;
        between = feeds.between;
        text = writes.text;
        unsent = writes.unsent;
        read = sym feeds.parts;
        hears = feeds.hears;
        begins = sym feeds.written ∙ writes.begins;
        written = writes.written;
        offer = offer;
        said = feeds.said;
        behind = feeds.behind;
        tells = tells old new feeds.between (handed fed) writes.unsent feeds.rest fed refl sent feeds.whole fault first;
      }

  -- not all of it could be written
  pub took_part : (outcome : Result (Vec Message) End) → ((requests : List Message) (unsent unheard : List ℕ) (between : SessionState) → Tells requests unsent unheard between new outcome) → Writes output made due left false → Hearing old (λ bytes. bytes ≡ piece) output made outcome new
  took_part outcome tell writes = record {
    stream = feeds.first;
    unheard = feeds.rest;
    turns = feeds.turns;
    requests = handed fed;
    between = feeds.between;
    text = writes.text;
    unsent = writes.unsent;
    read = sym feeds.parts;
    hears = feeds.hears;
    begins = sym feeds.written ∙ writes.begins;
    written = writes.written;
    offer = offer;
    said = feeds.said;
    behind = feeds.behind;
    tells = tell (handed fed) writes.unsent feeds.rest feeds.between;
  }

-- a fault of a stream says nothing of what was heard
pub fault_tells : (outcome : Result (Vec Message) End) (fault : End) → IsErrAnd outcome (λ end. end ≡ fault) → fault ≡ IoFault → (new : SessionState) (requests : List Message) (unsent unheard : List ℕ) (between : SessionState)
    → Tells requests unsent unheard between new outcome
fault_tells (Ok given) fault is io new requests unsent unheard between = elim is [ ]
fault_tells (Err end) fault is io new requests unsent unheard between =
    subst (λ (e : End). Tells requests unsent unheard between new (Err e)) (sym (is ∙ io)) tt

pub if_ok : {X : Type 0} (P : X → Type 0) (r : Result X End) → ((x : X) → P x) → IfOk r P
if_ok P (Ok x) all = all x
if_ok P (Err end) all = tt

pub none_of : (o : Option End) → ((end : End) → o ≡ Some end → ⊥) → o ≡ None
none_of None not = refl
none_of (Some end) not = absurd (not end refl)

-- ---- one piece after another

-- what is read later of an open session is timely too
pub timely_on : (old now : SessionState) (stream bytes : List ℕ) (turns : List Turn) (requests : List Message) → now.offer ≡ old.offer → HearsOn old stream turns requests now → (stream ≡ []) ⊎ IsTimely old stream → (bytes ≡ []) ⊎ IsTimely now bytes
    → (stream ++ bytes ≡ []) ⊎ IsTimely old (stream ++ bytes)
timely_on old now stream bytes turns requests offer hears first (inl none) =
    subst (λ (b : List ℕ). (b ≡ []) ⊎ IsTimely old b) (sym (ap (λ (b : List ℕ). stream ++ b) none ∙ append-nil stream)) first
timely_on old now stream bytes turns requests offer hears first (inr timely) = inr (record {
  front = stream ++ timely.front;
  last = timely.last;
  turns = turns ++ timely.turns;
  requests = requests ++ timely.requests;
  between = timely.between;
  parts = ap (λ (b : List ℕ). stream ++ b) timely.parts ∙ sym (append_assoc stream timely.front timely.last);
  short = timely.short;
  hears = hears_then old now timely.between stream timely.front turns timely.turns requests timely.requests offer hears timely.hears;
  going = timely.going;
})

-- a piece that an open session reads
pub timely_piece : (now : SessionState) (bytes : List ℕ) → IsOpen now.standing → length bytes ≤ piece_bytes → (bytes ≡ []) ⊎ IsTimely now bytes
timely_piece now bytes going short = inr (record { front = []; last = bytes; turns = []; requests = []; between = now; parts = refl; short = short; hears = hears_none now; going = going })

-- all that was read was heard, no request came, and all replies are written
pub record Heard (old : SessionState) (input mid output made : Option (List ℕ)) (now : SessionState) : Type 0 where
  pub stream : List ℕ
  pub turns : List Turn
  pub read : ReadsOn old input mid stream
  pub hears : HearsOn old stream turns [] now
  pub written : Appends output made (greeting_due old.standing now.standing ++ answers_text turns)
  pub said : IsSaid now.standing
  pub offer : now.offer ≡ old.offer
  pub behind : IsBehind old.standing → (turns ≡ []) × (now.agreed ≡ old.agreed) × IsBehind now.standing

pub heard_none : (old : SessionState) (input output : Option (List ℕ)) → IsSaid old.standing → Heard old input input output output old
heard_none old input output said = record {
  stream = [];
  turns = [];
  read = (consumes_none input, inl refl);
  hears = hears_none old;
  written = subst (λ (t : List ℕ). Appends output output (t ++ [])) (sym (no_greeting old.standing old.standing said)) (appends_none output);
  said = said;
  offer = refl;
  behind = λ b. (refl, refl, b);
}

answers-append : (turns more : List Turn) → answers_text (turns ++ more) ≡ answers_text turns ++ answers_text more
answers-append [] more = refl
answers-append (turn ∷ turns) more =
    ap (λ (t : List ℕ). answer_bytes turn.code turn.answer ++ t) (answers-append turns more) ∙ sym (append_assoc (answer_bytes turn.code turn.answer) (answers_text turns) (answers_text more))

pub went_on : (old new : SessionState) (IsRead : List ℕ → Type 0) (input mid output made : Option (List ℕ)) (given : Vec Message) → Hearing old IsRead output made (Ok given) new → ((bytes : List ℕ) → IsRead bytes → ReadsOn old input mid bytes)
    → given.items ≡ [] → (0 < vec_len given → ⊥) → IsSaid new.standing → Heard old input mid output made new
went_on old new IsRead input mid output made given hearing read none few said =
    let (same, sent, whole) = hearing.tells in
    elim whole [
      | inr end ↦ absurd (few end.1)
      | inl all ↦ record {
        stream = hearing.stream;
        turns = hearing.turns;
        read = subst (ReadsOn old input mid) (ap (λ (t : List ℕ). hearing.stream ++ t) all.0 ∙ append-nil hearing.stream) (read (hearing.stream ++ hearing.unheard) hearing.read);
        hears = subst (λ (now : SessionState). HearsOn old hearing.stream hearing.turns [] now) (sym all.1)
            (subst (λ (r : List Message). HearsOn old hearing.stream hearing.turns r hearing.between) (same ∙ none) hearing.hears);
        written = subst (Appends output made)
            (sym (ap (λ (now : SessionState). greeting_due old.standing now.standing ++ answers_text hearing.turns) all.1 ∙ hearing.begins ∙ ap (λ (t : List ℕ). hearing.text ++ t) sent ∙ append-nil hearing.text))
            hearing.written;
        said = said;
        offer = hearing.offer;
        behind = λ b. subst (λ (now : SessionState). (hearing.turns ≡ []) × (now.agreed ≡ old.agreed) × IsBehind now.standing) (sym all.1) (hearing.behind b);
      }
    ]

module _ (old now : SessionState) (input mid output made : Option (List ℕ)) (heard : Heard old input mid output made now) where
  abbrev said_text : List ℕ
  said_text = greeting_due old.standing now.standing ++ answers_text heard.turns

  pub heard_then : (new : SessionState) (left later : Option (List ℕ)) (IsRead : List ℕ → Type 0) (outcome : Result (Vec Message) End) → Hearing now IsRead made later outcome new → ((bytes : List ℕ) → IsRead bytes → ReadsOn now mid left bytes)
      → Hearing old (ReadsOn old input left) output later outcome new
  heard_then new left later IsRead outcome hearing read = record {
    stream = heard.stream ++ hearing.stream;
    unheard = hearing.unheard;
    turns = heard.turns ++ hearing.turns;
    requests = hearing.requests;
    between = hearing.between;
    text = said_text ++ hearing.text;
    unsent = hearing.unsent;
    read =
        let more = read (hearing.stream ++ hearing.unheard) hearing.read in
        subst (ReadsOn old input left) (sym (append_assoc heard.stream hearing.stream hearing.unheard))
        (consumes_on input mid left heard.stream (hearing.stream ++ hearing.unheard) heard.read.0 more.0, timely_on old now heard.stream (hearing.stream ++ hearing.unheard) heard.turns [] heard.offer heard.hears heard.read.1 more.1);
    hears = hears_then old now hearing.between heard.stream hearing.stream heard.turns hearing.turns [] hearing.requests heard.offer heard.hears hearing.hears;
    begins =
        let greeting = greeting_due old.standing now.standing in
        let rest : answers_text hearing.turns ≡ hearing.text ++ hearing.unsent =
        ap (λ (t : List ℕ). t ++ answers_text hearing.turns) (sym (no_greeting now.standing hearing.between.standing heard.said)) ∙ hearing.begins in
        ap (λ (t : List ℕ). t ++ answers_text (heard.turns ++ hearing.turns)) (due_same old.standing hearing.between.standing now.standing (hearing.said heard.said) heard.said)
        ∙ ap (λ (t : List ℕ). greeting ++ t) (answers-append heard.turns hearing.turns) ∙ sym (append_assoc greeting (answers_text heard.turns) (answers_text hearing.turns))
        ∙ ap (λ (t : List ℕ). said_text ++ t) rest ∙ sym (append_assoc said_text hearing.text hearing.unsent);
    written = appends_on output made later said_text hearing.text heard.written hearing.written;
    offer = hearing.offer ∙ heard.offer;
    said = λ b. hearing.said heard.said;
    behind = λ b.
        let first = heard.behind b in
        let second = hearing.behind first.2 in
        (ap (λ (t : List Turn). t ++ hearing.turns) first.0 ∙ second.0, second.1 ∙ first.1, second.2);
    tells = hearing.tells;
  }

  -- nothing more was heard
  pub heard_last : (left : Option (List ℕ)) (outcome : Result (Vec Message) End) → Consumes mid left [] → Tells [] [] [] now now outcome → Hearing old (ReadsOn old input left) output made outcome now
  heard_last left outcome none tell = record {
    stream = heard.stream;
    unheard = [];
    turns = heard.turns;
    requests = [];
    between = now;
    text = said_text;
    unsent = [];
    read = (consumes_on input mid left heard.stream [] heard.read.0 none, timely_on old now heard.stream [] heard.turns [] heard.offer heard.hears heard.read.1 (inl refl));
    hears = heard.hears;
    begins = sym (append-nil said_text);
    written = heard.written;
    offer = heard.offer;
    said = λ b. heard.said;
    behind = heard.behind;
    tells = tell;
  }

pub reads_nothing : (now : SessionState) (mid : Option (List ℕ)) (bytes : List ℕ) → bytes ≡ [] → ReadsOn now mid mid bytes
reads_nothing now mid bytes none = (subst (Consumes mid mid) (sym none) (consumes_none mid), inl none)

pub consumes_failed : (mid left : Option (List ℕ)) → Keeps mid left → Consumes mid left []
consumes_failed mid left kept = consumes_kept mid mid left [] (consumes_none mid) kept

pub as_error : (P : Result (Vec Message) End → Type 0) (end : End) (outcome : Result (Vec Message) End) → IsErrAnd outcome (λ e. e ≡ end) → P (Err end) → P outcome
as_error P end (Ok given) is holds = elim is [ ]
as_error P end (Err other) is holds = subst (λ (e : End). P (Err e)) (sym is) holds

nothing : {X : Type 0} (xs : List X) → length xs ≡ 0 → xs ≡ []
nothing [] none = refl
nothing (x ∷ xs) none = absurd (omega arith)

-- what is asked of a number of requests
pub some_left : (count : ℕ) → (count == 0) ≡ false → 0 < count
some_left count is = grind (arith, nat_tests)

pub none_left : (count : ℕ) → (count == 0) ≡ true → count ≡ 0
none_left count is = grind (arith, nat_tests)

pub items_none : (given : Vec Message) → vec_len given ≡ 0 → given.items ≡ []
items_none given zero = nothing given.items (omega (arith, given.ok.0, zero))

-- the same of what was read, said otherwise
pub hearing_read : (old new : SessionState) (IsRead IsTaken : List ℕ → Type 0) (output made : Option (List ℕ)) (outcome : Result (Vec Message) End) → Hearing old IsRead output made outcome new → ((bytes : List ℕ) → IsRead bytes → IsTaken bytes)
    → Hearing old IsTaken output made outcome new
hearing_read old new IsRead IsTaken output made outcome hearing read = record {
  stream = hearing.stream;
  unheard = hearing.unheard;
  turns = hearing.turns;
  requests = hearing.requests;
  between = hearing.between;
  text = hearing.text;
  unsent = hearing.unsent;
  read = read (hearing.stream ++ hearing.unheard) hearing.read;
  hears = hearing.hears;
  begins = hearing.begins;
  written = hearing.written;
  offer = hearing.offer;
  said = hearing.said;
  behind = hearing.behind;
  tells = hearing.tells;
}
