-- How a session goes on after its handshake.
use Rattle.std.proofs.Common.{◌≡◌, ℕ, Bool, true, List, [], ◌∷◌, ◌++◌, ◌⊎◌, Option, Some, Result, Ok, Err, inl, inr, refl, sym, ap, subst, ◌∙◌, append_assoc}
use Rattle.std.proofs.lemmas.List.{append-nil}
use Rattle.std.specs.Global.{Vec}
use Rattle.std.specs.Prelude.{IsErrAnd}
use Rattle.std.specs.Io.KnownBytes.{Appends, Consumes, IsAtEnd}
use Rattle.nbd_wire.specs.Request.{Message}
use Rattle.nbd_wire.specs.declared.message.Reply.{Reply}
use Rattle.nbd_wire.specs.declared.message.SessionFlags.{SessionFlags}
use Rattle.negotiation.specs.Dialog.{Standing, Turn, answers_text, broken, ended, exhausted, in_discard, in_flags, in_head, in_option, in_requests, silent}
use Rattle.negotiation.specs.Session.{HearsOn, IsBehind, IsOpen, IsSaid, SessionState, end_of}
use Rattle.negotiation.specs.declared.end.End.{End}
use Rattle.negotiation.specs.declared.end.End.TheVariants.{IoFault, NoMemory, PeerClosed, ProtocolEnd}
use Rattle.negotiation.specs.laws.Dialogs.{hears_none, hears_then}
use Rattle.negotiation.specs.Hearing.{Hearing, IsTimely, ReadsOn}
use Rattle.negotiation.specs.Serving.{Ends, Stands, Transmits}
use Rattle.negotiation.specs.Streams.{IsEarly}
use Rattle.negotiation.specs.Talk.{Answers, AreSteps, Exchange, asked, talk_text}
use Rattle.negotiation.proofs.Answering.{asked-append, steps_on, talk_text-append}
use Rattle.nbd_wire.specs.laws.Bytes.{appends_none, appends_on, consumes_none, consumes_on}
use Rattle.negotiation.proofs.Hearing.{no_greeting, timely_on}

pub early_ends : (end : Result (Unit {0}) End) → IsErrAnd end IsEarly → (standing : Standing) (unheard unsent : List ℕ) (unanswered : List Message) (left : Option (List ℕ)) → Ends standing unheard unsent unanswered left end
early_ends (Ok done) early standing unheard unsent unanswered left = elim early [ ]
early_ends (Err NoMemory) early standing unheard unsent unanswered left = tt
early_ends (Err PeerClosed) early standing unheard unsent unanswered left = absurd early
early_ends (Err ProtocolEnd) early standing unheard unsent unanswered left = absurd early
early_ends (Err IoFault) early standing unheard unsent unanswered left = tt

pub behind_said : (standing : Standing) → IsBehind standing → IsSaid standing
behind_said silent b = b
behind_said (in_flags bytes) b = tt
behind_said (in_head bytes) b = tt
behind_said (in_option code size bytes) b = tt
behind_said (in_discard code missing) b = tt
behind_said (in_requests reader) b = tt
behind_said ended b = tt
behind_said broken b = tt
behind_said exhausted b = tt

ended_behind : (standing : Standing) (end : End) → end_of standing ≡ Some end → IsBehind standing
ended_behind silent end is = cc
ended_behind (in_flags bytes) end is = cc
ended_behind (in_head bytes) end is = cc
ended_behind (in_option code size bytes) end is = cc
ended_behind (in_discard code missing) end is = cc
ended_behind (in_requests reader) end is = tt
ended_behind ended end is = tt
ended_behind broken end is = tt
ended_behind exhausted end is = tt

pub front_none : (xs ys : List ℕ) → [] ≡ xs ++ ys → xs ≡ []
front_none [] ys same = refl
front_none (x ∷ xs) ys same = cc

-- after the handshake nothing is due for it
quiet_text : (old new : SessionState) (IsRead : List ℕ → Type 0) (output made : Option (List ℕ)) (outcome : Result (Vec Message) End) (hearing : Hearing old IsRead output made outcome new) → IsBehind old.standing → hearing.text ≡ []
quiet_text old new IsRead output made outcome hearing b =
    let none = (hearing.behind b).0 in
    front_none hearing.text hearing.unsent
    (sym (ap (λ (t : List ℕ). t ++ answers_text hearing.turns) (no_greeting old.standing hearing.between.standing (behind_said old.standing b)) ∙ ap answers_text none) ∙ hearing.begins)

module _ {P : Type 0} (allows : P → Message → SessionFlags → P → Reply → Type 0) (flags : SessionFlags) (base : SessionState) (held : List ℕ) (waiting : List Message) (first : P) (input output : Option (List ℕ)) where
  -- the first requests were answered, and these wait
  pub record Transmitting (pass : P) (mid made : Option (List ℕ)) (now : SessionState) (requests : List Message) : Type 0 where
    pub stream : List ℕ
    pub unheard : List ℕ
    pub taken : List ℕ
    pub more : List Message
    pub between : SessionState
    pub exchanges : List Exchange
    pub read : Consumes input mid taken
    pub timely : (taken ≡ []) ⊎ ((held ≡ []) × IsTimely base taken)
    pub clear : (held ≡ []) ⊎ (end_of now.standing ≡ Some NoMemory)
    pub parts : held ++ taken ≡ stream ++ unheard
    pub hears : HearsOn base stream [] more between
    pub agreed : between.agreed ≡ base.agreed
    pub offer : now ≡ between → now.offer ≡ base.offer
    pub all : waiting ++ more ≡ asked exchanges ++ requests
    pub steps : AreSteps allows flags first exchanges pass
    pub written : Appends output made (talk_text flags exchanges)
    pub behind : IsBehind between.standing
    pub stands : Stands unheard now between

  pub transmitting_start : (now : SessionState) → Stands held now base → IsBehind base.standing → Transmitting first input output now waiting
  transmitting_start now stands b = record {
    stream = [];
    unheard = held;
    taken = [];
    more = [];
    between = base;
    exchanges = [];
    read = consumes_none input;
    timely = inl refl;
    clear = elim stands [ inl all ↦ inl all.0 | inr end ↦ inr end ];
    parts = append-nil held;
    hears = hears_none base;
    agreed = refl;
    offer = λ same. ap (λ (s : SessionState). s.offer) same;
    all = append-nil waiting;
    steps = refl;
    written = appends_none output;
    behind = b;
    stands = stands;
  }

  module _ (pass : P) (mid made : Option (List ℕ)) (now : SessionState) (requests : List Message) (t : Transmitting pass mid made now requests) where
    -- all that wait are answered
    pub answered : (later : P) (made_on : Option (List ℕ)) → Answers allows flags pass requests later made made_on true → Transmitting later mid made_on now []
    answered later made_on answers =
        let whole = answers.whole refl in
        record {
          stream = t.stream;
          unheard = t.unheard;
          taken = t.taken;
          more = t.more;
          between = t.between;
          exchanges = t.exchanges ++ answers.exchanges;
          read = t.read;
          timely = t.timely;
          clear = t.clear;
          parts = t.parts;
          hears = t.hears;
          agreed = t.agreed;
          offer = t.offer;
          all = t.all ∙ ap (λ (r : List Message). asked t.exchanges ++ r) (answers.all ∙ ap (λ (r : List Message). asked answers.exchanges ++ r) whole.0)
              ∙ sym (append_assoc (asked t.exchanges) (asked answers.exchanges) []) ∙ ap (λ (r : List Message). r ++ []) (sym (asked-append t.exchanges answers.exchanges));
          steps = steps_on allows flags first pass later t.exchanges answers.exchanges t.steps answers.steps;
          written = subst (Appends output made_on) (ap (λ (x : List ℕ). talk_text flags t.exchanges ++ x) (sym (answers.begins ∙ ap (λ (x : List ℕ). answers.text ++ x) whole.1 ∙ append-nil answers.text)) ∙ sym (talk_text-append flags t.exchanges answers.exchanges))
              (appends_on output made made_on (talk_text flags t.exchanges) answers.text t.written answers.written);
          behind = t.behind;
          stands = t.stands;
        }

    -- the answers broke off
    pub answered_part : (later : P) (made_on : Option (List ℕ)) (is_whole : Bool) (end : Result (Unit {0}) End) → Answers allows flags pass requests later made made_on is_whole → IsErrAnd end IsEarly → Transmits allows flags base held waiting first later input mid output made_on end
    answered_part later made_on is_whole end answers early = record {
      stream = t.stream;
      unheard = t.unheard;
      taken = t.taken;
      more = t.more;
      between = t.between;
      exchanges = t.exchanges ++ answers.exchanges;
      unanswered = answers.unanswered;
      text = talk_text flags t.exchanges ++ answers.text;
      unsent = answers.unsent;
      read = t.read;
      timely = t.timely;
      parts = t.parts;
      hears = t.hears;
      agreed = t.agreed;
      requests = t.all ∙ ap (λ (r : List Message). asked t.exchanges ++ r) answers.all ∙ sym (append_assoc (asked t.exchanges) (asked answers.exchanges) answers.unanswered)
          ∙ ap (λ (r : List Message). r ++ answers.unanswered) (sym (asked-append t.exchanges answers.exchanges));
      steps = steps_on allows flags first pass later t.exchanges answers.exchanges t.steps answers.steps;
      begins = talk_text-append flags t.exchanges answers.exchanges ∙ ap (λ (x : List ℕ). talk_text flags t.exchanges ++ x) answers.begins ∙ sym (append_assoc (talk_text flags t.exchanges) answers.text answers.unsent);
      written = appends_on output made made_on (talk_text flags t.exchanges) answers.text t.written answers.written;
      ends = early_ends end early t.between.standing t.unheard answers.unsent answers.unanswered mid;
    }

    -- nothing more is read or written
    pub stopped : (end : Result (Unit {0}) End) → Ends t.between.standing t.unheard [] requests mid end → Transmits allows flags base held waiting first pass input mid output made end
    stopped end ends = record {
      stream = t.stream;
      unheard = t.unheard;
      taken = t.taken;
      more = t.more;
      between = t.between;
      exchanges = t.exchanges;
      unanswered = requests;
      text = talk_text flags t.exchanges;
      unsent = [];
      read = t.read;
      timely = t.timely;
      parts = t.parts;
      hears = t.hears;
      agreed = t.agreed;
      requests = t.all;
      steps = t.steps;
      begins = sym (append-nil (talk_text flags t.exchanges));
      written = t.written;
      ends = ends;
    }

  module _ (pass : P) (mid made : Option (List ℕ)) (now : SessionState) (t : Transmitting pass mid made now []) where
    not_ended : (standing : Standing) → end_of standing ≡ Some NoMemory → standing ≡ ended → ⊥
    not_ended standing end is = let ends : end_of ended ≡ Some NoMemory = ap end_of (sym is) ∙ end in cc ends

    -- its client ended the session
    pub over : (end : Result (Unit {0}) End) → now.standing ≡ ended → end ≡ Ok tt → Transmits allows flags base held waiting first pass input mid output made end
    over end is fine = subst (Transmits allows flags base held waiting first pass input mid output made) (sym fine) (stopped pass mid made now [] t (Ok tt) (elim t.stands [
      | inl all ↦ (record { heard = all.0; sent = refl; answered = refl }, sym (ap (λ (s : SessionState). s.standing) all.1) ∙ is)
      | inr end ↦ absurd (not_ended now.standing end is)
    ]))

    module _ (new : SessionState) (left later : Option (List ℕ)) (outcome : Result (Vec Message) End) (unheard : t.unheard ≡ []) (offer : t.between.offer ≡ base.offer) (h : Hearing t.between (ReadsOn t.between mid left) made later outcome new) where
      quiet : (h.turns ≡ []) × (h.between.agreed ≡ t.between.agreed) × IsBehind h.between.standing
      quiet = h.behind t.behind

      read_on : Consumes input left (t.taken ++ (h.stream ++ h.unheard))
      read_on = consumes_on input mid left t.taken (h.stream ++ h.unheard) t.read h.read.0

      timely_more : held ≡ [] → (t.taken ++ (h.stream ++ h.unheard) ≡ []) ⊎ ((held ≡ []) × IsTimely base (t.taken ++ (h.stream ++ h.unheard)))
      timely_more none =
          let whole : t.taken ≡ t.stream = ap (λ (x : List ℕ). x ++ t.taken) (sym none) ∙ t.parts ∙ ap (λ (x : List ℕ). t.stream ++ x) unheard ∙ append-nil t.stream in
          let first : (t.taken ≡ []) ⊎ IsTimely base t.taken = elim t.timely [ inl nothing ↦ inl nothing | inr both ↦ inr both.1 ] in
          elim (timely_on base t.between t.taken (h.stream ++ h.unheard) [] t.more offer (subst (λ (x : List ℕ). HearsOn base x [] t.more t.between) (sym whole) t.hears) first h.read.1) [
            | inl nothing ↦ inl nothing
            | inr timely ↦ inr (none, timely)
          ]

      parts_on : held ++ (t.taken ++ (h.stream ++ h.unheard)) ≡ (t.stream ++ h.stream) ++ h.unheard
      parts_on =
          sym (append_assoc held t.taken (h.stream ++ h.unheard))
          ∙ ap (λ (x : List ℕ). x ++ (h.stream ++ h.unheard)) (t.parts ∙ ap (λ (x : List ℕ). t.stream ++ x) unheard ∙ append-nil t.stream)
          ∙ sym (append_assoc t.stream h.stream h.unheard)

      hears_on : HearsOn base (t.stream ++ h.stream) [] (t.more ++ h.requests) h.between
      hears_on = subst (λ (turns : List Turn). HearsOn base (t.stream ++ h.stream) turns (t.more ++ h.requests) h.between) quiet.0
          (hears_then base t.between h.between t.stream h.stream [] h.turns t.more h.requests offer t.hears h.hears)

      all_on : waiting ++ (t.more ++ h.requests) ≡ asked t.exchanges ++ h.requests
      all_on = sym (append_assoc waiting t.more h.requests) ∙ ap (λ (r : List Message). r ++ h.requests) (t.all ∙ append-nil (asked t.exchanges))

      written_on : Appends output later (talk_text flags t.exchanges)
      written_on = subst (Appends output later) (append-nil (talk_text flags t.exchanges))
          (appends_on output made later (talk_text flags t.exchanges) [] t.written (subst (Appends made later) (quiet_text t.between new (ReadsOn t.between mid left) made later outcome h t.behind) h.written))

    heard_by : (new : SessionState) (left later : Option (List ℕ)) (outcome : Result (Vec Message) End) → now ≡ t.between → Hearing now (ReadsOn now mid left) made later outcome new → Hearing t.between (ReadsOn t.between mid left) made later outcome new
    heard_by new left later outcome same hearing = subst (λ (s : SessionState). Hearing s (ReadsOn s mid left) made later outcome new) same hearing

    size_by : now ≡ t.between → t.between.offer ≡ base.offer
    size_by same = sym (ap (λ (s : SessionState). s.offer) same) ∙ t.offer same

    -- more requests came
    pub heard_more : (given : Vec Message) (new : SessionState) (left later : Option (List ℕ)) → Hearing now (ReadsOn now mid left) made later (Ok given) new → (end_of now.standing ≡ Some NoMemory → ⊥) → Transmitting pass left later new given.items
    heard_more given new left later hearing fed =
        elim t.stands [
          | inr end ↦ absurd (fed end)
          | inl stands ↦
              let offer = size_by stands.1 in
              let h = heard_by new left later (Ok given) stands.1 hearing in
              let none : held ≡ [] = elim t.clear [ inl none ↦ none | inr end ↦ absurd (fed end) ] in
              record {
                stream = t.stream ++ h.stream;
                unheard = h.unheard;
                taken = t.taken ++ (h.stream ++ h.unheard);
                more = t.more ++ h.requests;
                between = h.between;
                exchanges = t.exchanges;
                read = read_on new left later (Ok given) stands.0 offer h;
                timely = timely_more new left later (Ok given) stands.0 offer h none;
                clear = inl none;
                parts = parts_on new left later (Ok given) stands.0 offer h;
                hears = hears_on new left later (Ok given) stands.0 offer h;
                agreed = (quiet new left later (Ok given) stands.0 offer h).1 ∙ t.agreed;
                offer = λ same. h.offer ∙ offer;
                all = all_on new left later (Ok given) stands.0 offer h ∙ ap (λ (r : List Message). asked t.exchanges ++ r) h.tells.0;
                steps = t.steps;
                written = written_on new left later (Ok given) stands.0 offer h;
                behind = (quiet new left later (Ok given) stands.0 offer h).2;
                stands = elim h.tells.2 [ inl all ↦ inl all | inr end ↦ inr end.0 ];
              }
        ]

    module _ (new : SessionState) (left later : Option (List ℕ)) where
      ends_with : (end : End) (unheard : t.unheard ≡ []) (h : Hearing t.between (ReadsOn t.between mid left) made later (Err end) new) → (end ≡ PeerClosed → IsAtEnd left) → Ends h.between.standing h.unheard [] h.requests left (Err end)
      ends_with NoMemory unheard h closed = tt
      ends_with PeerClosed unheard h closed =
          let (none, sent, all, same, going) = h.tells in
          (record { heard = all; sent = refl; answered = none }, subst (λ (s : SessionState). IsOpen s.standing) same going, closed refl)
      ends_with ProtocolEnd unheard h closed =
          let (none, sent, all, same, bad) = h.tells in
          (record { heard = all; sent = refl; answered = none }, ap (λ (s : SessionState). end_of s.standing) (sym same) ∙ bad)
      ends_with IoFault unheard h closed = tt

      -- memory had run out, and nothing was read
      starved_end : (end : End) → Hearing now (ReadsOn now mid left) made later (Err end) new → end_of now.standing ≡ Some NoMemory → IsEarly end → left ≡ mid → Transmits allows flags base held waiting first pass input left output later (Err end)
      starved_end end hearing starves early same =
          let none = quiet_text now new (ReadsOn now mid left) made later (Err end) hearing (ended_behind now.standing NoMemory starves) in
          record {
            stream = t.stream;
            unheard = t.unheard;
            taken = t.taken;
            more = t.more;
            between = t.between;
            exchanges = t.exchanges;
            unanswered = [];
            text = talk_text flags t.exchanges;
            unsent = [];
            read = subst (λ (rest : Option (List ℕ)). Consumes input rest t.taken) (sym same) t.read;
            timely = t.timely;
            parts = t.parts;
            hears = t.hears;
            agreed = t.agreed;
            requests = t.all;
            steps = t.steps;
            begins = sym (append-nil (talk_text flags t.exchanges));
            written = subst (Appends output later) (append-nil (talk_text flags t.exchanges))
                (appends_on output made later (talk_text flags t.exchanges) [] t.written (subst (Appends made later) none hearing.written));
            ends = early_ends (Err end) early t.between.standing t.unheard [] [] left;
          }

      heard_on : (end : End) → Hearing now (ReadsOn now mid left) made later (Err end) new → (end ≡ PeerClosed → IsAtEnd left) → held ≡ [] → t.unheard ≡ [] → now ≡ t.between → Transmits allows flags base held waiting first pass input left output later (Err end)
      heard_on end hearing closed none unheard same =
          let offer = size_by same in
          let h = heard_by new left later (Err end) same hearing in
          record {
            stream = t.stream ++ h.stream;
            unheard = h.unheard;
            taken = t.taken ++ (h.stream ++ h.unheard);
            more = t.more ++ h.requests;
            between = h.between;
            exchanges = t.exchanges;
            unanswered = h.requests;
            text = talk_text flags t.exchanges;
            unsent = [];
            read = read_on new left later (Err end) unheard offer h;
            timely = timely_more new left later (Err end) unheard offer h none;
            parts = parts_on new left later (Err end) unheard offer h;
            hears = hears_on new left later (Err end) unheard offer h;
            agreed = (quiet new left later (Err end) unheard offer h).1 ∙ t.agreed;
            requests = all_on new left later (Err end) unheard offer h;
            steps = t.steps;
            begins = sym (append-nil (talk_text flags t.exchanges));
            written = written_on new left later (Err end) unheard offer h;
            ends = ends_with end unheard h closed;
          }

      -- it ended otherwise than its client asked for
      pub heard_end : (end : End) → Hearing now (ReadsOn now mid left) made later (Err end) new → (end ≡ PeerClosed → IsAtEnd left) → (end_of now.standing ≡ Some NoMemory → IsEarly end × (left ≡ mid))
          → Transmits allows flags base held waiting first pass input left output later (Err end)
      heard_end end hearing closed starved =
          let broken_off = λ (starves : end_of now.standing ≡ Some NoMemory). starved_end end hearing starves (starved starves).0 (starved starves).1 in
          elim t.clear [
            | inl none ↦ elim t.stands [ inl stands ↦ heard_on end hearing closed none stands.0 stands.1 | inr starves ↦ broken_off starves ]
            | inr starves ↦ broken_off starves
          ]

pub as_end : (P : Result (Unit {0}) End → Type 0) (end : End) (outcome : Result (Unit {0}) End) → IsErrAnd outcome (λ e. e ≡ end) → P (Err end) → P outcome
as_end P end (Ok done) is holds = elim is [ ]
as_end P end (Err other) is holds = subst (λ (e : End). P (Err e)) (sym is) holds
