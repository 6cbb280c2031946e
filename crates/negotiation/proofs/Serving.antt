-- A whole session, from its handshake and what came after it.
use Rattle.negotiation.specs.Answered.{Offer}
use Rattle.std.proofs.Common.{◌≡◌, ℕ, List, [], ◌∷◌, ◌++◌, ◌⊎◌, Option, Result, Ok, Err, inl, inr, refl, sym, ap, subst, ◌∙◌, append_assoc}
use Rattle.std.proofs.lemmas.List.{append-nil}
use Rattle.std.specs.Global.{Vec}
use Rattle.std.specs.Prelude.{IsErrAnd}
use Rattle.std.specs.Io.KnownBytes.{IsAtEnd}
use Rattle.nbd_wire.specs.Request.{Message}
use Rattle.nbd_wire.specs.declared.message.Reply.{Reply}
use Rattle.nbd_wire.specs.declared.message.SessionFlags.{SessionFlags}
use Rattle.negotiation.specs.declared.answer.Agreed.{Agreed}
use Rattle.negotiation.specs.Dialog.{Asks, Follows, Hears, Leaves, Negotiates, Outcome, Standing, Turn, agreed_with, answers_text, broken, ended, exhausted, in_discard, in_flags, in_head, in_option, in_requests, handshake_text, plain, silent}
use Rattle.negotiation.specs.Session.{HearsOn, IsBehind, IsOpen, IsSaid, SessionState, end_of, greeting_due, outcome_of}
use Rattle.negotiation.specs.declared.answer.Next.{Next}
use Rattle.negotiation.specs.declared.answer.Next.TheVariants as behind
use Rattle.negotiation.specs.declared.end.End.{End}
use Rattle.negotiation.specs.declared.end.End.TheVariants.{IoFault, NoMemory, PeerClosed, ProtocolEnd}
use Rattle.negotiation.specs.Hearing.{Hearing, IsTimely, ReadsOn}
use Rattle.negotiation.specs.Serving.{Ends, IsServed, Stands, Transmits, begun, dialog}
use Rattle.negotiation.specs.Streams.{IsEarly}
use Rattle.negotiation.specs.Talk.{AreSteps, talk_text}
use Rattle.nbd_wire.specs.laws.Bytes.{appends_none, appends_on, consumes_none, consumes_on}
use Rattle.negotiation.proofs.Hearing.{due_said, timely_on}
use Rattle.negotiation.proofs.AfterHandshake.{behind_said, early_ends, front_none}

-- where nothing was said no option was heard
follows_silent : (next : Next) (agreed : Agreed) (rest : List ℕ) (turns : List Turn) (outcome : Outcome) (P : Type 0) → outcome.standing ≡ silent → (P → ⊥) → Follows next agreed rest turns outcome P → ⊥
follows_silent behind.Option agreed rest turns outcome P is not p = not p
follows_silent behind.Transmission agreed rest turns outcome P is not p = subst (λ (s : Standing). Asks rest outcome.requests s) is p.2
follows_silent behind.End agreed rest turns outcome P is not p = let same : ended ≡ silent = sym p.1.2 ∙ is in cc same
follows_silent behind.Fault agreed rest turns outcome P is not p = let same : broken ≡ silent = sym p.1.2 ∙ is in cc same

negotiates_silent : (offer : Offer) (agreed : Agreed) (stream : List ℕ) (turns : List Turn) (outcome : Outcome) → outcome.standing ≡ silent → Negotiates offer agreed stream turns outcome → ⊥
negotiates_silent offer agreed stream [] outcome is p = subst (λ (s : Standing). Leaves s stream) is p.2
negotiates_silent offer agreed stream (turn ∷ turns) outcome is p =
    follows_silent turn.answer.next turn.answer.agreed p.1 turns outcome (Negotiates offer turn.answer.agreed p.1 turns outcome) is
    (negotiates_silent offer turn.answer.agreed p.1 turns outcome is) p.4

no_turns : (offer : Offer) (stream : List ℕ) (turns : List Turn) (outcome : Outcome) → outcome.standing ≡ silent → Hears offer stream turns outcome → turns ≡ []
no_turns offer stream turns outcome is (inl p) = p.none
no_turns offer stream turns outcome is (inr p) = absurd (negotiates_silent offer (agreed_with p.client plain) p.rest turns outcome is p.negotiates)

-- of what is due for the greeting and the replies the text is a beginning of the handshake's
record Says (turns : List Turn) (text unsent : List ℕ) (between : Standing) : Type 0 where
  pub left : List ℕ
  pub begins : handshake_text turns ≡ text ++ left
  pub all : IsSaid between → left ≡ unsent

says_all : (between : Standing) (turns : List Turn) (text unsent : List ℕ) → IsSaid between → greeting_due silent between ++ answers_text turns ≡ text ++ unsent → Says turns text unsent between
says_all between turns text unsent said begins =
    record { left = unsent; begins = ap (λ (t : List ℕ). t ++ answers_text turns) (sym (due_said between said)) ∙ begins; all = λ s. refl }

says : (between : Standing) (turns : List Turn) (text unsent : List ℕ) → (between ≡ silent → turns ≡ []) → greeting_due silent between ++ answers_text turns ≡ text ++ unsent → Says turns text unsent between
says silent turns text unsent none begins =
    let nothing : text ≡ [] = front_none text unsent (sym (ap answers_text (none refl)) ∙ begins) in
    record { left = handshake_text turns; begins = ap (λ (t : List ℕ). t ++ handshake_text turns) (sym nothing); all = λ s. absurd s }
says (in_flags bytes) turns text unsent none begins = says_all (in_flags bytes) turns text unsent tt begins
says (in_head bytes) turns text unsent none begins = says_all (in_head bytes) turns text unsent tt begins
says (in_option code size bytes) turns text unsent none begins = says_all (in_option code size bytes) turns text unsent tt begins
says (in_discard code missing) turns text unsent none begins = says_all (in_discard code missing) turns text unsent tt begins
says (in_requests reader) turns text unsent none begins = says_all (in_requests reader) turns text unsent tt begins
says ended turns text unsent none begins = says_all ended turns text unsent tt begins
says broken turns text unsent none begins = says_all broken turns text unsent tt begins
says exhausted turns text unsent none begins = says_all exhausted turns text unsent tt begins

-- nothing was heard yet
hears_silent : (offer : Offer) → Hears offer [] [] (outcome_of [] (begun offer))
hears_silent offer = inl (record { none = refl; requests = refl; agreed = refl; leaves = refl })

module _ {P : Type 0} (allows : P → Message → SessionFlags → P → Reply → Type 0) (offer : Offer) (pass : P) (input output : Option (List ℕ)) where
  -- there was no memory to begin with
  pub served_nothing : (end : Result (Unit {0}) End) → IsErrAnd end IsEarly → IsServed allows offer pass pass input input output output end
  served_nothing end early = record {
    stream = [];
    unheard = [];
    outcome = outcome_of [] (begun offer);
    exchanges = [];
    unanswered = [];
    text = [];
    unsent = dialog [] plain.flags [];
    read = (consumes_none input, inl refl);
    owed = record { turns = []; hears = hears_silent offer; requests = refl; whole = refl };
    steps = refl;
    written = appends_none output;
    ends = early_ends end early silent [] (dialog [] plain.flags []) [] input;
  }

  module _ (mid made : Option (List ℕ)) (new : SessionState) where
    ends_with : (end : End) (h : Hearing (begun offer) (ReadsOn (begun offer) input mid) output made (Err end) new) (unsent : List ℕ) → (IsSaid h.between.standing → unsent ≡ h.unsent) → IsSaid new.standing → (end ≡ PeerClosed → IsAtEnd mid)
        → Ends h.between.standing h.unheard unsent h.requests mid (Err end)
    ends_with NoMemory h unsent left said closed = tt
    ends_with PeerClosed h unsent left said closed =
        let (none, sent, all, same, going) = h.tells in
        let said_so : IsSaid h.between.standing = subst (λ (s : SessionState). IsSaid s.standing) same said in
        (record { heard = all; sent = left said_so ∙ sent; answered = none }, subst (λ (s : SessionState). IsOpen s.standing) same going, closed refl)
    ends_with ProtocolEnd h unsent left said closed =
        let (none, sent, all, same, bad) = h.tells in
        let said_so : IsSaid h.between.standing = subst (λ (s : SessionState). IsSaid s.standing) same said in
        (record { heard = all; sent = left said_so ∙ sent; answered = none }, ap (λ (s : SessionState). end_of s.standing) (sym same) ∙ bad)
    ends_with IoFault h unsent left said closed = tt

    -- the handshake ended otherwise than its client asked for
    pub served_handshake : (end : End) (h : Hearing (begun offer) (ReadsOn (begun offer) input mid) output made (Err end) new) → IsSaid new.standing → (end ≡ PeerClosed → IsAtEnd mid) → IsServed allows offer pass pass input mid output made (Err end)
    served_handshake end h said closed =
        let heard = h.hears [] [] [] (hears_silent offer) in
        let said_so = says h.between.standing h.turns h.text h.unsent (λ is. no_turns offer h.stream h.turns (outcome_of h.requests h.between) is heard) h.begins in
        record {
          stream = h.stream;
          unheard = h.unheard;
          outcome = outcome_of h.requests h.between;
          exchanges = [];
          unanswered = h.requests;
          text = h.text;
          unsent = said_so.left;
          read = h.read;
          owed = record { turns = h.turns; hears = heard; requests = refl; whole = sym (append-nil (handshake_text h.turns) ∙ said_so.begins) };
          steps = refl;
          written = h.written;
          ends = ends_with end h said_so.left said_so.all said closed;
        }

    module _ (given : Vec Message) (h : Hearing (begun offer) (ReadsOn (begun offer) input mid) output made (Ok given) new) where
      -- what transmission goes on from
      abbrev pub base : SessionState
      base = record { offer = offer; agreed = h.between.agreed; standing = h.between.standing }

      same_base : new ≡ h.between → new ≡ base
      same_base same =
          let is : h.between.offer ≡ offer = sym (ap (λ (s : SessionState). s.offer) same) ∙ h.offer in
          same ∙ (λ i. record { offer = is i; agreed = h.between.agreed; standing = h.between.standing })

      pub stands : Stands h.unheard new base
      stands = elim h.tells.2 [ inl all ↦ inl (all.0, same_base all.1) | inr end ↦ inr end.0 ]

      pub over : IsBehind new.standing → IsBehind base.standing
      over b = elim h.tells.2 [ inl all ↦ subst (λ (s : SessionState). IsBehind s.standing) all.1 b | inr end ↦ end.3 ]

      pub agreed : new.agreed ≡ base.agreed
      agreed = elim h.tells.2 [ inl all ↦ ap (λ (s : SessionState). s.agreed) all.1 | inr end ↦ end.2 ]

      -- nothing is read after an end of the handshake
      timely : (taken : List ℕ) → (taken ≡ []) ⊎ ((h.unheard ≡ []) × IsTimely base taken) → ((h.stream ++ h.unheard) ++ taken ≡ []) ⊎ IsTimely (begun offer) ((h.stream ++ h.unheard) ++ taken)
      timely taken (inl none) = subst (λ (b : List ℕ). (b ≡ []) ⊎ IsTimely (begun offer) b) (sym (ap (λ (b : List ℕ). (h.stream ++ h.unheard) ++ b) none ∙ append-nil (h.stream ++ h.unheard))) h.read.1
      timely taken (inr both) =
          let all : h.stream ++ h.unheard ≡ h.stream = ap (λ (b : List ℕ). h.stream ++ b) both.0 ∙ append-nil h.stream in
          timely_on (begun offer) base (h.stream ++ h.unheard) taken h.turns h.requests refl (subst (λ (b : List ℕ). HearsOn (begun offer) b h.turns h.requests base) (sym all) h.hears) h.read.1 (inr both.1)

      -- and what came of it
      pub served_whole : (later : P) (left told : Option (List ℕ)) (end : Result (Unit {0}) End) → IsBehind new.standing → Transmits allows new.agreed.flags base h.unheard given.items pass later mid left made told end → IsServed allows offer pass later input left output told end
      served_whole later left told end b t =
          let heard = h.hears [] [] [] (hears_silent offer) in
          let said_so = says h.between.standing h.turns h.text h.unsent (λ is. no_turns offer h.stream h.turns (outcome_of h.requests h.between) is heard) h.begins in
          let said : handshake_text h.turns ≡ h.text = said_so.begins ∙ ap (λ (x : List ℕ). h.text ++ x) (said_so.all (behind_said h.between.standing (over b)) ∙ h.tells.1) ∙ append-nil h.text in
          let flags : new.agreed.flags ≡ t.between.agreed.flags = ap (λ (a : Agreed). a.flags) (agreed ∙ sym t.agreed) in
          let read : (h.stream ++ h.unheard) ++ t.taken ≡ (h.stream ++ t.stream) ++ t.unheard =
          append_assoc h.stream h.unheard t.taken ∙ ap (λ (x : List ℕ). h.stream ++ x) t.parts ∙ sym (append_assoc h.stream t.stream t.unheard) in
          record {
            stream = h.stream ++ t.stream;
            unheard = t.unheard;
            outcome = outcome_of (h.requests ++ t.more) t.between;
            exchanges = t.exchanges;
            unanswered = t.unanswered;
            text = h.text ++ t.text;
            unsent = t.unsent;
            read = subst (ReadsOn (begun offer) input left) read (consumes_on input mid left (h.stream ++ h.unheard) t.taken h.read.0 t.read, timely t.taken t.timely);
            owed = record {
              turns = h.turns;
              hears = subst (λ (turns : List Turn). Hears offer (h.stream ++ t.stream) turns (outcome_of (h.requests ++ t.more) t.between)) (append-nil h.turns) (t.hears h.stream h.turns h.requests heard);
              requests = ap (λ (r : List Message). r ++ t.more) h.tells.0 ∙ t.requests;
              whole = sym (ap (λ (x : List ℕ). x ++ talk_text t.between.agreed.flags t.exchanges) said ∙ ap (λ (x : List ℕ). h.text ++ x) (ap (λ (f : SessionFlags). talk_text f t.exchanges) (sym flags) ∙ t.begins) ∙ sym (append_assoc h.text t.text t.unsent));
            };
            steps = subst (λ (f : SessionFlags). AreSteps allows f pass t.exchanges later) flags t.steps;
            written = appends_on output made told h.text t.text h.written t.written;
            ends = t.ends;
          }

pub memory_early : (end : Result (Unit {0}) End) → IsErrAnd end (λ e. e ≡ NoMemory) → IsErrAnd end IsEarly
memory_early (Ok done) is = elim is [ ]
memory_early (Err end) is = subst IsEarly (sym is) tt
