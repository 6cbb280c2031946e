-- What a session does with a piece, by the stage that it is at.
use Rattle.std.proofs.Common.{◌≡◌, ◌⊎◌, inl, inr, ℕ, ◌+◌, ◌<◌, ◌≤◌, ◌^◌, true, false, eqb, List, [], ◌∷◌, ◌++◌, length, take, refl, sym, ap, subst, ◌∙◌, append_assoc, length-append, arith}
use Rattle.std.specs.Prelude.{Some, Result, Ok, Err, IfErr, IsErr, cond}
use Rattle.std.specs.Result.{IsErrAnd}
use Rattle.std.specs.Global.{Vec}
use Rattle.std.proofs.lemmas.List.{append-nil, take-append-le}
use Rattle.nbd_wire.specs.Request.{Message}
use Rattle.nbd_wire.specs.Stream.{Reader, end_of as end_of_requests, failed, in_data as keeps_data, in_discard as keeps_count, in_head as keeps_head, reading, starved}
use Rattle.nbd_wire.specs.declared.error.WireFault.{WireFault}
use Rattle.nbd_wire.specs.declared.error.WireFault.TheVariants as faults
use Rattle.negotiation.specs.declared.answer.Agreed.{Agreed}
use Rattle.option_wire.specs.Handshake.{client_flags_bytes, greeting_bytes}
use Rattle.option_wire.specs.Head.{option_head}
use Rattle.option_wire.specs.declared.head.OptionHead.{OptionHead}
use Rattle.option_wire.specs.declared.reply.OptionError.TheVariants as errors
use Rattle.negotiation.specs.Answered.{Offer, Answered, IsAnswered, answer_bytes, refusal_of}
use Rattle.negotiation.specs.declared.end.End.{End}
use Rattle.negotiation.specs.declared.end.End.TheVariants.{NoMemory}
use Rattle.negotiation.specs.declared.stage.Stage.{Stage}
use Rattle.negotiation.specs.declared.stage.Stage.TheVariants as stages
use Rattle.negotiation.specs.Dialog.{IsNoOption, IsTooLong, Leaves, Standing, Turn, broken, ended, exhausted, in_discard, in_flags, in_head, in_option, in_requests, kept_limit, most_bytes, answers_text, silent}
use Rattle.negotiation.specs.Ends.{end_for}
use Rattle.negotiation.specs.Session.{Feeds, HearsOn, IsBehind, IsGreeted, IsSaid, SessionState, end_of, greeting_due, handed, held_by, standing_of}
use Rattle.negotiation.specs.inner.Session.{IsLongPart, Step, wanted_of, Advances, Greets, Hands, IsData, Runs, Settles, state_of}
use Rattle.negotiation.specs.declared.stage.Talk.{Talk}
use Rattle.negotiation.specs.laws.Dialogs.{hears_none, hears_on, hears_then, session_at}

-- ---- the greeting

due_said : (standing : Standing) → IsSaid standing → greeting_due silent standing ≡ greeting_bytes
due_said silent said = absurd said
due_said (in_flags bytes) said = refl
due_said (in_head bytes) said = refl
due_said (in_option code size bytes) said = refl
due_said (in_discard code missing) said = refl
due_said (in_requests reader) said = refl
due_said ended said = refl
due_said broken said = refl
due_said exhausted said = refl

pub greeted : (old between new : Standing) (before after : List ℕ) → Greets old between before after → IsSaid new → after ≡ before ++ greeting_due old new
greeted silent between new before after greets said = greets.1 ∙ ap (λ (t : List ℕ). before ++ t) (sym (due_said new said))
greeted (in_flags bytes) between new before after greets said = greets.1 ∙ sym (append-nil before)
greeted (in_head bytes) between new before after greets said = greets.1 ∙ sym (append-nil before)
greeted (in_option code size bytes) between new before after greets said = greets.1 ∙ sym (append-nil before)
greeted (in_discard code missing) between new before after greets said = greets.1 ∙ sym (append-nil before)
greeted (in_requests reader) between new before after greets said = greets.1 ∙ sym (append-nil before)
greeted ended between new before after greets said = greets.1 ∙ sym (append-nil before)
greeted broken between new before after greets said = greets.1 ∙ sym (append-nil before)
greeted exhausted between new before after greets said = greets.1 ∙ sym (append-nil before)

stays : (offer : Offer) (agreed : Agreed) (old new : Standing) → new ≡ old → HearsOn (session_at offer agreed old) [] [] [] (session_at offer agreed new)
stays offer agreed old new same =
    subst (λ (s : Standing). HearsOn (session_at offer agreed old) [] [] [] (session_at offer agreed s)) (sym same) (hears_none (session_at offer agreed old))

-- what was read is the same
pub greets_hears : (offer : Offer) (agreed : Agreed) (old new : Standing) (before after : List ℕ) → Greets old new before after → HearsOn (session_at offer agreed old) [] [] [] (session_at offer agreed new)
greets_hears offer agreed silent new before after greets =
    subst (λ (s : Standing). HearsOn (session_at offer agreed silent) [] [] [] (session_at offer agreed s)) (sym greets.0)
    (hears_on offer [] [] [] agreed agreed silent (in_flags [])
    (record { leaves = λ text p. absurd p; asks = λ text asked p. absurd p; ends = λ e. cc; breaks = λ e. cc })
    (λ text p e. inl (record { none = refl; requests = refl; agreed = e; leaves = (omega arith, append-nil text ∙ p) })))
greets_hears offer agreed (in_flags bytes) new before after greets = stays offer agreed (in_flags bytes) new greets.0
greets_hears offer agreed (in_head bytes) new before after greets = stays offer agreed (in_head bytes) new greets.0
greets_hears offer agreed (in_option code length bytes) new before after greets = stays offer agreed (in_option code length bytes) new greets.0
greets_hears offer agreed (in_discard code missing) new before after greets = stays offer agreed (in_discard code missing) new greets.0
greets_hears offer agreed (in_requests reader) new before after greets = stays offer agreed (in_requests reader) new greets.0
greets_hears offer agreed ended new before after greets = stays offer agreed ended new greets.0
greets_hears offer agreed broken new before after greets = stays offer agreed broken new greets.0
greets_hears offer agreed exhausted new before after greets = stays offer agreed exhausted new greets.0

-- ---- what stays as it is

-- what ends a session stays, whatever comes after it
no_option_append : (text more : List ℕ) → IsNoOption text → IsNoOption (text ++ more)
no_option_append text more p =
    let same : take 8 (text ++ more) ≡ take 8 text = take-append-le 8 text more (omega (arith, p.0)) in
    (omega (arith, p.0, length-append text more), λ magic. p.1 (sym same ∙ magic))

too_long_append : (text more : List ℕ) → IsTooLong text → IsTooLong (text ++ more)
too_long_append text more p =
    (p.0, p.1, p.2 ++ more, p.3, p.4, p.5, ap (λ (t : List ℕ). t ++ more) p.6 ∙ append_assoc (option_head p.0 p.1) p.2 more)

broken_stays : (text more : List ℕ) → Leaves broken text → Leaves broken (text ++ more)
broken_stays text more (inl p) = inl (no_option_append text more p)
broken_stays text more (inr p) = inr (too_long_append text more p)

pub hands_broken : (piece : List ℕ) → Hands broken piece [] broken
hands_broken piece = record {
  first = piece;
  rest = [];
  between = broken;
  parts = sym (append-nil piece);
  said = tt;
  behind = λ b. tt;
  hears = λ offer agreed. hears_on offer piece [] [] agreed agreed broken broken
      (record { leaves = λ text p. (refl, refl, broken_stays text piece p); asks = λ text asked p. absurd p; ends = λ e. cc; breaks = λ e. (refl, (refl, refl, refl)) })
      (λ text p e. inl (record {
        none = refl;
        requests = refl;
        agreed = e;
        leaves = (p.0, p.1 ++ piece, p.2, p.3, ap (λ (t : List ℕ). t ++ piece) p.4 ∙ append_assoc (client_flags_bytes p.0) p.1 piece);
      }));
  whole = inr (refl, refl);
}

hands_ended : (piece : List ℕ) → Hands ended piece [] ended
hands_ended piece = record {
  first = piece;
  rest = [];
  between = ended;
  parts = sym (append-nil piece);
  said = tt;
  behind = λ b. tt;
  hears = λ offer agreed. hears_on offer piece [] [] agreed agreed ended ended
      (record {
        leaves = λ text p. absurd p;
        asks = λ text asked p. (
          refl,
          refl,
          (
            p.0,
            record { first = p.1.first; rest = p.1.rest ++ piece; kept = p.1.kept; parts = ap (λ (t : List ℕ). t ++ piece) p.1.parts ∙ append_assoc p.1.first p.1.rest piece; reads = p.1.reads },
            p.2,
            append-nil asked ∙ p.3,
          ),
        );
        ends = λ e. (refl, (refl, refl, refl));
        breaks = λ e. cc;
      })
      (λ text p e. absurd p);
  whole = inr (refl, refl);
}

-- nothing of a piece is left for a stage
hands_nothing : (standing : Standing) (piece : List ℕ) → IsSaid standing → piece ≡ [] → Hands standing piece [] standing
hands_nothing standing piece said none = record {
  first = [];
  rest = [];
  between = standing;
  parts = none;
  said = said;
  behind = λ b. b;
  hears = λ offer agreed. hears_none (session_at offer agreed standing);
  whole = inr (refl, refl);
}

pub hands_exhausted : (piece : List ℕ) → Hands exhausted piece [] exhausted
hands_exhausted piece = record {
  first = [];
  rest = piece;
  between = exhausted;
  parts = refl;
  said = tt;
  behind = λ b. tt;
  hears = λ offer agreed. hears_none (session_at offer agreed exhausted);
  whole = inl (refl, inl refl);
}

-- a piece is left only after a handshake
abbrev IsLeft : Stage → List ℕ → Type 0
IsLeft stage piece = (piece ≡ []) ⊎ (wanted_of stage ≡ 0)

none_left : (stage : Stage) (piece : List ℕ) → 0 < wanted_of stage → IsLeft stage piece → piece ≡ []
none_left stage piece some (inl none) = none
none_left stage piece some (inr nothing) = absurd (omega arith)

pub hands_still : (stage : Stage) (piece : List ℕ) → IsGreeted stage → IsLeft stage piece → ((reader : Reader) → stage ≡ stages.Requests reader → ⊥) → Hands (standing_of stage) piece [] (standing_of stage)
hands_still stages.Silent piece sound left other = absurd sound
hands_still (stages.Flags bytes) piece sound left other = hands_nothing (in_flags bytes.items) piece tt (none_left (stages.Flags bytes) piece (omega (arith, sound)) left)
hands_still (stages.Head bytes) piece sound left other = hands_nothing (in_head bytes.items) piece tt (none_left (stages.Head bytes) piece (omega (arith, sound)) left)
hands_still (stages.Data head bytes) piece sound left other =
    hands_nothing (in_option head.option head.length bytes.items) piece tt (none_left (stages.Data head bytes) piece (omega (arith, sound.0)) left)
hands_still (stages.Discard option missing) piece sound left other = hands_nothing (in_discard option missing) piece tt (none_left (stages.Discard option missing) piece (omega (arith, sound)) left)
hands_still (stages.Requests reader) piece sound left other = absurd (other reader refl)
hands_still stages.Ended piece sound left other = hands_ended piece
hands_still stages.Broken piece sound left other = hands_broken piece
hands_still stages.Exhausted piece sound left other = hands_exhausted piece

-- ---- ends

pub end_from : (reader : Reader) (end : End) → end_of (in_requests reader) ≡ Some end → (fault : WireFault) × (end_of_requests reader ≡ Some fault) × (end_for fault ≡ end)
end_from (reading (keeps_head bytes)) end is = cc
end_from (reading (keeps_data head bytes)) end is = cc
end_from (reading (keeps_count head missing)) end is = cc
end_from (reading (failed fault)) end is = (faults.Malformed fault, refl, cc)
end_from starved end is = (faults.NoMemory, refl, cc)

pub goes_on_still : (stage : Stage) (end : End) → ((reader : Reader) → stage ≡ stages.Requests reader → ⊥) → (stage ≡ stages.Broken → ⊥) → (stage ≡ stages.Exhausted → ⊥) → end_of (standing_of stage) ≡ Some end → ⊥
goes_on_still stages.Silent end other whole more is = cc
goes_on_still (stages.Flags bytes) end other whole more is = cc
goes_on_still (stages.Head bytes) end other whole more is = cc
goes_on_still (stages.Data head bytes) end other whole more is = cc
goes_on_still (stages.Discard option missing) end other whole more is = cc
goes_on_still (stages.Requests reader) end other whole more is = other reader refl
goes_on_still stages.Ended end other whole more is = cc
goes_on_still stages.Broken end other whole more is = whole refl
goes_on_still stages.Exhausted end other whole more is = more refl

pub held_still : (stage : Stage) → IsGreeted stage → ((reader : Reader) → stage ≡ stages.Requests reader → ⊥) → held_by (standing_of stage) < 28 + 1048576
held_still stages.Silent sound other = absurd sound
held_still (stages.Flags bytes) sound other = omega (arith, sound)
held_still (stages.Head bytes) sound other = omega (arith, sound)
held_still (stages.Data head bytes) sound other = omega (arith, sound.0, sound.1)
held_still (stages.Discard option missing) sound other = omega arith
held_still (stages.Requests reader) sound other = absurd (other reader refl)
held_still stages.Ended sound other = omega arith
held_still stages.Broken sound other = omega arith
held_still stages.Exhausted sound other = omega arith

-- ---- options

pub most_at_least : (code : ℕ) → kept_limit ≤ most_bytes code
most_at_least code = elim (eqb code 1) as (λ b. 65536 ≤ cond b 65536 33554432) [ true ↦ omega arith | false ↦ omega arith ]

module _ (agreed : Agreed) (offer : Offer) (code : ℕ) (fits : code < 2 ^ 32) (before after : List ℕ) where
  one_reply : (answer : Answered) (talk : Talk) → Settles code answer before after talk → after ≡ before ++ answers_text (record { code = code; answer = answer } ∷ [])
  one_reply answer talk settles = settles.written ∙ ap (λ (t : List ℕ). before ++ t) (sym (append-nil (answer_bytes code answer)))

  -- an option whose data were kept
  pub closed : (content : List ℕ) (answer : Answered) → length content ≤ kept_limit → IsAnswered agreed offer code content answer → (talk : Talk) → Settles code answer before after talk
      → Step agreed offer (IsData code content) before after talk
  closed content answer short is talk settles = record {
    turns = record { code = code; answer = answer } ∷ [];
    takes = λ text whole. (
      record { content = content; code_fits = fits; bound = omega (arith, short, most_at_least code); whole = whole; told = inl (short, is) },
      settles.agreed,
      settles.standing,
    );
    written = one_reply answer talk settles;
  }

  -- one whose data were thrown away
  pub discarded : (answer : Answered) (left : ℕ) → left ≡ 0 → answer ≡ refusal_of agreed code errors.TooBig → (talk : Talk) → Settles code answer before after talk → Step agreed offer (IsLongPart code left) before after talk
  discarded answer left none is talk settles = record {
    turns = record { code = code; answer = answer } ∷ [];
    takes = λ text p.
        let all : length p.0 + left ≡ length p.0 = omega (arith, none) in (
          record {
            content = p.0;
            code_fits = fits;
            bound = omega (arith, p.2, all);
            whole = p.3 ∙ ap (λ (n : ℕ). option_head code n ++ p.0) all;
            told = inr (omega (arith, p.1, all), is);
          },
          settles.agreed,
          settles.standing,
        );
    written = one_reply answer talk settles;
  }

-- ---- steps

pub idle : (stage : Stage) → ((bytes : Vec ℕ) → stage ≡ stages.Flags bytes → ⊥) → ((bytes : Vec ℕ) → stage ≡ stages.Head bytes → ⊥) → ((head : OptionHead) (bytes : Vec ℕ) → stage ≡ stages.Data head bytes → ⊥)
    → ((option missing : ℕ) → stage ≡ stages.Discard option missing → ⊥) → wanted_of stage ≡ 0
idle stages.Silent a b d e = refl
idle (stages.Flags bytes) a b d e = absurd (a bytes refl)
idle (stages.Head bytes) a b d e = absurd (b bytes refl)
idle (stages.Data head bytes) a b d e = absurd (d head bytes refl)
idle (stages.Discard option missing) a b d e = absurd (e option missing refl)
idle (stages.Requests reader) a b d e = refl
idle stages.Ended a b d e = refl
idle stages.Broken a b d e = refl
idle stages.Exhausted a b d e = refl

nothing : (front : List ℕ) → length front ≤ 0 → front ≡ []
nothing [] none = refl
nothing (x ∷ xs) none = absurd (omega arith)

pub advances_nothing : (session : SessionState) (front before : List ℕ) (wanted : ℕ) → length front ≤ wanted → wanted ≡ 0 → Advances session front before before session
advances_nothing session front before wanted within none =
    subst (λ (t : List ℕ). Advances session t before before session) (sym (nothing front (omega (arith, within, none))))
    (record { turns = []; hears = hears_none session; written = sym (append-nil before) })

pub ended_idle : (stage : Stage) (end : End) → end_of (standing_of stage) ≡ Some end → wanted_of stage ≡ 0
ended_idle stages.Silent end is = refl
ended_idle (stages.Flags bytes) end is = cc
ended_idle (stages.Head bytes) end is = cc
ended_idle (stages.Data head bytes) end is = cc
ended_idle (stages.Discard option missing) end is = cc
ended_idle (stages.Requests reader) end is = refl
ended_idle stages.Ended end is = refl
ended_idle stages.Broken end is = refl
ended_idle stages.Exhausted end is = refl

-- ---- a whole feed

pub said_behind : (stage : Stage) → IsGreeted stage → IsSaid (standing_of stage)
said_behind stages.Silent sound = sound
said_behind (stages.Flags bytes) sound = tt
said_behind (stages.Head bytes) sound = tt
said_behind (stages.Data head bytes) sound = tt
said_behind (stages.Discard option missing) sound = tt
said_behind (stages.Requests reader) sound = tt
said_behind stages.Ended sound = tt
said_behind stages.Broken sound = tt
said_behind stages.Exhausted sound = tt

-- there was no memory for the greeting
pub not_greeted : (session new : SessionState) (piece before after : List ℕ) → session.standing ≡ silent → after ≡ before → end_of new.standing ≡ Some NoMemory → Feeds session piece before after [] new
not_greeted session new piece before after is same end = record {
  turns = [];
  first = [];
  rest = piece;
  between = session;
  parts = refl;
  hears = hears_none session;
  written = same ∙ sym (append-nil before) ∙ ap (λ (s : Standing). before ++ (greeting_due s s ++ [])) (sym is);
  said = λ b. absurd (subst IsSaid is b);
  behind = λ b. absurd (subst IsBehind is b);
  whole = inl (end, inl refl);
}

module _ (offer : Offer) (agreed : Agreed) (old greeting : Standing) (before middle after piece behind : List ℕ) (between : Talk) (greets : Greets old greeting before middle) (sound : IsGreeted between.stage)
    (runs : Runs (session_at offer agreed greeting) piece behind middle after (state_of offer between)) (not : IsBehind old → ⊥) where
  hears_to : HearsOn (session_at offer agreed old) runs.taken runs.turns [] (state_of offer between)
  hears_to = hears_then (session_at offer agreed old) (session_at offer agreed greeting) (state_of offer between) [] runs.taken [] runs.turns [] [] refl (greets_hears offer agreed old greeting before middle greets) runs.hears

  written_to : (new : Standing) → IsSaid new → after ≡ before ++ (greeting_due old new ++ answers_text runs.turns)
  written_to new said =
      runs.written ∙ ap (λ (t : List ℕ). t ++ answers_text runs.turns) (greeted old greeting new before middle greets said) ∙ append_assoc before (greeting_due old new) (answers_text runs.turns)

  -- memory ran out in the handshake
  pub cut_short : (new : SessionState) → end_of new.standing ≡ Some NoMemory → Feeds (session_at offer agreed old) piece before after [] new
  cut_short new end = record {
    turns = runs.turns;
    first = runs.taken;
    rest = behind;
    between = state_of offer between;
    parts = runs.parts;
    hears = hears_to;
    written = written_to (standing_of between.stage) (said_behind between.stage sound);
    said = λ b. said_behind between.stage sound;
    behind = λ b. absurd (not b);
    whole = inl (end, inl refl);
  }

  pub fed : (new : Standing) (requests : List Message) → Hands (standing_of between.stage) behind requests new → Feeds (session_at offer agreed old) piece before after requests (session_at offer between.agreed new)
  fed new requests hands = record {
    turns = runs.turns;
    first = runs.taken ++ hands.first;
    rest = hands.rest;
    between = session_at offer between.agreed hands.between;
    parts = runs.parts ∙ ap (λ (t : List ℕ). runs.taken ++ t) hands.parts ∙ sym (append_assoc runs.taken hands.first hands.rest);
    hears = subst (λ (turns : List Turn). HearsOn (session_at offer agreed old) (runs.taken ++ hands.first) turns requests (session_at offer between.agreed hands.between)) (append-nil runs.turns)
        (hears_then (session_at offer agreed old) (state_of offer between) (session_at offer between.agreed hands.between) runs.taken hands.first runs.turns [] [] requests refl hears_to (hands.hears offer between.agreed));
    written = written_to hands.between hands.said;
    said = λ b. hands.said;
    behind = λ b. absurd (not b);
    whole = elim hands.whole [ inl end ↦ inl (end.0, elim end.1 [ inl none ↦ inl none | inr b ↦ inr (refl, b) ]) | inr both ↦ inr (both.0, ap (session_at offer between.agreed) both.1) ];
  }

-- ---- after the handshake

pub behind_or : (standing : Standing) → IsBehind standing ⊎ (IsBehind standing → ⊥)
behind_or silent = inr (λ b. b)
behind_or (in_flags bytes) = inr (λ b. b)
behind_or (in_head bytes) = inr (λ b. b)
behind_or (in_option code size bytes) = inr (λ b. b)
behind_or (in_discard code missing) = inr (λ b. b)
behind_or (in_requests reader) = inl tt
behind_or ended = inl tt
behind_or broken = inl tt
behind_or exhausted = inl tt

pub behind_idle : (stage : Stage) → IsBehind (standing_of stage) → wanted_of stage ≡ 0
behind_idle stages.Silent b = absurd b
behind_idle (stages.Flags bytes) b = absurd b
behind_idle (stages.Head bytes) b = absurd b
behind_idle (stages.Data head bytes) b = absurd b
behind_idle (stages.Discard option missing) b = absurd b
behind_idle (stages.Requests reader) b = refl
behind_idle stages.Ended b = refl
behind_idle stages.Broken b = refl
behind_idle stages.Exhausted b = refl

pub greets_behind : (old new : Standing) (before after : List ℕ) → Greets old new before after → IsBehind old → (new ≡ old) × (after ≡ before)
greets_behind silent new before after greets b = absurd b
greets_behind (in_flags bytes) new before after greets b = absurd b
greets_behind (in_head bytes) new before after greets b = absurd b
greets_behind (in_option code size bytes) new before after greets b = absurd b
greets_behind (in_discard code missing) new before after greets b = absurd b
greets_behind (in_requests reader) new before after greets b = greets
greets_behind ended new before after greets b = greets
greets_behind broken new before after greets b = greets
greets_behind exhausted new before after greets b = greets

no_greeting : (old new : Standing) → IsBehind old → greeting_due old new ≡ []
no_greeting silent new b = absurd b
no_greeting (in_flags bytes) new b = refl
no_greeting (in_head bytes) new b = refl
no_greeting (in_option code size bytes) new b = refl
no_greeting (in_discard code missing) new b = refl
no_greeting (in_requests reader) new b = refl
no_greeting ended new b = refl
no_greeting broken new b = refl
no_greeting exhausted new b = refl

pub fed_behind : (offer : Offer) (agreed : Agreed) (old new : Standing) (before after piece : List ℕ) (requests : List Message) → IsBehind old → after ≡ before → Hands old piece requests new
    → Feeds (session_at offer agreed old) piece before after requests (session_at offer agreed new)
fed_behind offer agreed old new before after piece requests b same hands = record {
  turns = [];
  first = hands.first;
  rest = hands.rest;
  between = session_at offer agreed hands.between;
  parts = hands.parts;
  hears = hands.hears offer agreed;
  written = same ∙ sym (append-nil before) ∙ ap (λ (t : List ℕ). before ++ (t ++ [])) (sym (no_greeting old hands.between b));
  said = λ was. hands.said;
  behind = λ was. (refl, refl, hands.behind was);
  whole = elim hands.whole [ inl end ↦ inl (end.0, elim end.1 [ inl none ↦ inl none | inr b ↦ inr (refl, b) ]) | inr both ↦ inr (both.0, ap (session_at offer agreed) both.1) ];
}

pub handed_error : (result : Result (Vec Message) End) → IsErr result → handed result ≡ []
handed_error (Ok requests) is = cc
handed_error (Err end) is = refl

-- what holds of an end holds of an answer that is this one
pub err_given : {T : Type 0} (P : End → Type 0) (result : Result T End) (end : End) → IsErrAnd result (λ given. given ≡ end) → P end → IfErr result P
err_given P (Ok value) end none holds = tt
err_given P (Err given) end is holds = subst P (sym is) holds

-- an end stands before any greeting
pub greets_ended : (old new : Standing) (before after : List ℕ) (end : End) → Greets old new before after → end_of old ≡ Some end → new ≡ old
greets_ended silent new before after end greets is = cc
greets_ended (in_flags bytes) new before after end greets is = greets.0
greets_ended (in_head bytes) new before after end greets is = greets.0
greets_ended (in_option code size bytes) new before after end greets is = greets.0
greets_ended (in_discard code missing) new before after end greets is = greets.0
greets_ended (in_requests reader) new before after end greets is = greets.0
greets_ended ended new before after end greets is = greets.0
greets_ended broken new before after end greets is = greets.0
greets_ended exhausted new before after end greets is = greets.0
