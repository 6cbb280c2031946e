-- How what a session has read goes on with a further piece.
use Rattle.std.proofs.Common.{◌≡◌, inl, inr, ℕ, ◌+◌, List, [], ◌∷◌, ◌++◌, length, refl, sym, ap, subst, ◌∙◌, append_assoc, length-append, arith}
use Rattle.std.proofs.lemmas.List.{append-nil}
use Rattle.nbd_wire.specs.Request.{Message}
use Rattle.negotiation.specs.declared.answer.Agreed.{Agreed}
use Rattle.option_wire.specs.Handshake.{client_flags_bytes}
use Rattle.option_wire.specs.Head.{option_head}
use Rattle.negotiation.specs.Answered.{Offer, answer_bytes}
use Rattle.negotiation.specs.declared.answer.Next.{Next}
use Rattle.negotiation.specs.declared.answer.Next.TheVariants as behind
use Rattle.negotiation.specs.Dialog.{Asks, Follows, Hears, IsOver, IsTurn, Leaves, LeavesFlags, Negotiates, Outcome, Standing, Turn, agreed_with, answers_text, broken, ended, in_discard, in_flags, in_head, in_option, plain}
use Rattle.negotiation.specs.declared.stage.Talk.{Talk}
use Rattle.negotiation.specs.Session.{HearsOn, SessionState, outcome_of, standing_of}
use Rattle.negotiation.specs.inner.Session.{IsLongPart, IsPart, Step, Takes, TakesFlags, standing_behind, Advances, Runs, state_of}

abbrev pub outcome : List Message → Agreed → Standing → Outcome
outcome requests settled standing = record { requests = requests; agreed = settled; standing = standing }

-- One step of a session from a standing s to a standing s', over a piece: what has to be shown of each place at which a
-- session may stand.
pub record Goes (offer : Offer) (piece : List ℕ) (turns : List Turn) (requests : List Message) (settled settled' : Agreed) (s s' : Standing) : Type 0 where
  pub leaves : (text : List ℕ) → Leaves s text → Negotiates offer settled (text ++ piece) turns (outcome requests settled' s')
  pub asks : (text : List ℕ) (asked : List Message) → Asks text asked s → (turns ≡ []) × (settled' ≡ settled) × Asks (text ++ piece) (asked ++ requests) s'
  pub ends : s ≡ ended → (turns ≡ []) × IsOver settled (outcome requests settled' s') ended
  pub breaks : s ≡ broken → (turns ≡ []) × IsOver settled (outcome requests settled' s') broken

module _ (offer : Offer) (piece : List ℕ) (turns : List Turn) (requests : List Message) (settled settled' : Agreed) (s s' : Standing) (goes : Goes offer piece turns requests settled settled' s s') where
  -- after the last option
  last_goes : (agreed : Agreed) (asked : List Message) (end : Standing) (before : List Turn) (made : (turns ≡ []) × IsOver settled (outcome requests settled' s') end) → before ≡ [] → IsOver agreed (outcome asked settled s) end
      → (before ++ turns ≡ []) × IsOver agreed (outcome (asked ++ requests) settled' s') end
  last_goes agreed asked end before made none over = (
    ap (λ (t : List Turn). t ++ turns) none ∙ made.0,
    (ap (λ (r : List Message). r ++ requests) over.0 ∙ made.1.0, made.1.1 ∙ over.1, made.1.2),
  )

  pub follows_on : (next : Next) (agreed : Agreed) (rest : List ℕ) (before : List Turn) (asked : List Message) (P Q : Type 0) → (P → Q) → Follows next agreed rest before (outcome asked settled s) P
      → Follows next agreed (rest ++ piece) (before ++ turns) (outcome (asked ++ requests) settled' s') Q
  follows_on behind.Option agreed rest before asked P Q on p = on p
  follows_on behind.Transmission agreed rest before asked P Q on p =
      let made = goes.asks rest asked p.2 in
      (ap (λ (t : List Turn). t ++ turns) p.0 ∙ made.0, made.1 ∙ p.1, made.2)
  follows_on behind.End agreed rest before asked P Q on p =
      last_goes agreed asked ended before (goes.ends p.1.2) p.0 p.1
  follows_on behind.Fault agreed rest before asked P Q on p =
      last_goes agreed asked broken before (goes.breaks p.1.2) p.0 p.1

  pub negotiates_on : (agreed : Agreed) (stream : List ℕ) (before : List Turn) (asked : List Message) → Negotiates offer agreed stream before (outcome asked settled s)
      → Negotiates offer agreed (stream ++ piece) (before ++ turns) (outcome (asked ++ requests) settled' s')
  negotiates_on agreed stream [] asked p =
      subst (λ (f : Agreed). Negotiates offer f (stream ++ piece) turns (outcome (asked ++ requests) settled' s')) p.1
      (subst (λ (r : List Message). Negotiates offer settled (stream ++ piece) turns (outcome (r ++ requests) settled' s')) (sym p.0) (goes.leaves stream p.2))
  negotiates_on agreed stream (turn ∷ before) asked p = (
    p.0,
    p.1 ++ piece,
    p.2,
    ap (λ (t : List ℕ). t ++ piece) p.3 ∙ append_assoc p.0 p.1 piece,
    follows_on turn.answer.next turn.answer.agreed p.1 before asked (Negotiates offer turn.answer.agreed p.1 before (outcome asked settled s))
        (Negotiates offer turn.answer.agreed (p.1 ++ piece) (before ++ turns) (outcome (asked ++ requests) settled' s'))
        (negotiates_on turn.answer.agreed p.1 before asked) p.4,
  )

  pub hears_on : (flagless : (text : List ℕ) → LeavesFlags s text → settled ≡ plain → Hears offer (text ++ piece) turns (outcome requests settled' s'))
      → (stream : List ℕ) (before : List Turn) (asked : List Message) → Hears offer stream before (outcome asked settled s) → Hears offer (stream ++ piece) (before ++ turns) (outcome (asked ++ requests) settled' s')
  hears_on flagless stream before asked (inl p) =
      subst (λ (b : List Turn). Hears offer (stream ++ piece) (b ++ turns) (outcome (asked ++ requests) settled' s')) (sym p.none)
      (subst (λ (r : List Message). Hears offer (stream ++ piece) turns (outcome (r ++ requests) settled' s')) (sym p.requests) (flagless stream p.leaves p.agreed))
  hears_on flagless stream before asked (inr p) = inr (record {
    client = p.client;
    rest = p.rest ++ piece;
    accepted = p.accepted;
    whole = ap (λ (t : List ℕ). t ++ piece) p.whole ∙ append_assoc (client_flags_bytes p.client) p.rest piece;
    negotiates = negotiates_on (agreed_with p.client plain) p.rest before asked p.negotiates;
  })

-- ---- what a step comes to

one_turn : (offer : Offer) (agreed settled : Agreed) (standing : Standing) (text : List ℕ) (turn : Turn) → IsTurn agreed offer text turn → settled ≡ turn.answer.agreed → standing ≡ standing_behind turn.answer.next
    → Negotiates offer agreed text (turn ∷ []) (outcome [] settled standing)
one_turn offer agreed settled standing text turn is same stands = (
  text,
  [],
  is,
  sym (append-nil text),
  elim turn.answer.next as (λ next. standing ≡ standing_behind next → Follows next turn.answer.agreed [] [] (outcome [] settled standing) (Negotiates offer turn.answer.agreed [] [] (outcome [] settled standing))) [
    | behind.Option ↦ λ e. (refl, same, subst (λ (s : Standing). Leaves s []) (sym e) (omega arith, refl))
    | behind.Transmission ↦ λ e. (refl, same, subst (λ (s : Standing). Asks [] [] s) (sym e) ((omega arith, refl), refl))
    | behind.End ↦ λ e. (refl, (refl, same, e))
    | behind.Fault ↦ λ e. (refl, (refl, same, e))
  ] stands,
)

takes_negotiates : (offer : Offer) (agreed settled : Agreed) (standing : Standing) (text : List ℕ) (turns : List Turn) → Takes agreed offer text turns settled standing
    → Negotiates offer agreed text turns (outcome [] settled standing)
takes_negotiates offer agreed settled standing text [] p = (refl, p.0, p.1)
takes_negotiates offer agreed settled standing text (turn ∷ []) p = one_turn offer agreed settled standing text turn p.0 p.1 p.2
takes_negotiates offer agreed settled standing text (turn ∷ other ∷ turns) p = absurd p

abbrev pub session_at : Offer → Agreed → Standing → SessionState
session_at offer settled standing = record { offer = offer; agreed = settled; standing = standing }

module _ (offer : Offer) (settled : Agreed) (front before after : List ℕ) (talk : Talk) where
  -- the next of what stands before an option's data
  pub head_advances : (bytes : List ℕ) → Step settled offer (λ text. text ≡ bytes ++ front) before after talk → Advances (session_at offer settled (in_head bytes)) front before after (state_of offer talk)
  head_advances bytes step = record {
    turns = step.turns;
    hears = hears_on offer front step.turns [] settled talk.agreed (in_head bytes) (standing_of talk.stage)
        (record {
          leaves = λ text p. takes_negotiates offer settled talk.agreed (standing_of talk.stage) (text ++ front) step.turns (step.takes (text ++ front) (ap (λ (t : List ℕ). t ++ front) p.1));
          asks = λ text asked p. absurd p;
          ends = λ e. cc;
          breaks = λ e. cc;
        })
        (λ text p e. absurd p);
    written = step.written;
  }

  -- the next of its data
  pub data_advances : (code length : ℕ) (bytes : List ℕ) → Step settled offer (IsPart code length (bytes ++ front)) before after talk
      → Advances (session_at offer settled (in_option code length bytes)) front before after (state_of offer talk)
  data_advances code length bytes step = record {
    turns = step.turns;
    hears = hears_on offer front step.turns [] settled talk.agreed (in_option code length bytes) (standing_of talk.stage)
        (record {
          leaves = λ text p. takes_negotiates offer settled talk.agreed (standing_of talk.stage) (text ++ front) step.turns
              (step.takes (text ++ front) (ap (λ (t : List ℕ). t ++ front) p.3 ∙ append_assoc (option_head code length) bytes front));
          asks = λ text asked p. absurd p;
          ends = λ e. cc;
          breaks = λ e. cc;
        })
        (λ text p e. absurd p);
    written = step.written;
  }

  -- the next of data that are thrown away
  pub discard_advances : (code missing left : ℕ) → length front + left ≡ missing → Step settled offer (IsLongPart code left) before after talk
      → Advances (session_at offer settled (in_discard code missing)) front before after (state_of offer talk)
  discard_advances code missing left parts step = record {
    turns = step.turns;
    hears = hears_on offer front step.turns [] settled talk.agreed (in_discard code missing) (standing_of talk.stage)
        (record {
          leaves = λ text p.
              let sent = p.0 ++ front in
              let same : length p.0 + missing ≡ length sent + left = omega (arith, parts, length-append p.0 front) in
              takes_negotiates offer settled talk.agreed (standing_of talk.stage) (text ++ front) step.turns
              (step.takes (text ++ front) (
                sent,
                omega (arith, same, p.3),
                omega (arith, same, p.4),
                ap (λ (t : List ℕ). t ++ front) p.5 ∙ append_assoc (option_head code (length p.0 + missing)) p.0 front ∙ ap (λ (n : ℕ). option_head code n ++ sent) same,
              ));
          asks = λ text asked p. absurd p;
          ends = λ e. cc;
          breaks = λ e. cc;
        })
        (λ text p e. absurd p);
    written = step.written;
  }

-- the next of the client's flags
pub flags_advances : (offer : Offer) (settled : Agreed) (bytes front before : List ℕ) (talk : Talk) → TakesFlags settled (bytes ++ front) talk.agreed (standing_of talk.stage)
    → Advances (session_at offer settled (in_flags bytes)) front before before (state_of offer talk)
flags_advances offer settled bytes front before talk takes = record {
  turns = [];
  hears = hears_on offer front [] [] settled talk.agreed (in_flags bytes) (standing_of talk.stage)
      (record { leaves = λ text p. absurd p; asks = λ text asked p. absurd p; ends = λ e. cc; breaks = λ e. cc })
      (λ text p e. elim takes [
        | inl left ↦ inl (record { none = refl; requests = refl; agreed = left.0 ∙ e; leaves = subst (λ (t : List ℕ). LeavesFlags (standing_of talk.stage) (t ++ front)) (sym p.1) left.1 })
        | inr greeted ↦ inr (record {
          client = greeted.0;
          rest = [];
          accepted = greeted.1;
          whole = ap (λ (t : List ℕ). t ++ front) p.1 ∙ greeted.2 ∙ sym (append-nil (client_flags_bytes greeted.0));
          negotiates = (refl, greeted.3 ∙ ap (agreed_with greeted.0) e, subst (λ (s : Standing). Leaves s []) (sym greeted.4) (omega arith, refl));
        })
      ]);
  written = sym (append-nil before);
}

-- ---- runs

pub hears_none : (session : SessionState) → HearsOn session [] [] [] session
hears_none session stream before asked p =
    subst (λ (t : List ℕ). Hears session.offer t (before ++ []) (outcome_of (asked ++ []) session)) (sym (append-nil stream))
    (subst (λ (b : List Turn). Hears session.offer stream b (outcome_of (asked ++ []) session)) (sym (append-nil before))
    (subst (λ (r : List Message). Hears session.offer stream before (outcome_of r session)) (sym (append-nil asked)) p))

pub hears_then : (old between new : SessionState) (first second : List ℕ) (turns more : List Turn) (requests others : List Message) → between.offer ≡ old.offer → HearsOn old first turns requests between → HearsOn between second more others new
    → HearsOn old (first ++ second) (turns ++ more) (requests ++ others) new
hears_then old between new first second turns more requests others same one two stream before asked p =
    let reached = subst (λ (offer : Offer). Hears offer (stream ++ first) (before ++ turns) (outcome_of (asked ++ requests) between)) (sym same) (one stream before asked p) in
    let made = subst (λ (offer : Offer). Hears offer ((stream ++ first) ++ second) ((before ++ turns) ++ more) (outcome_of ((asked ++ requests) ++ others) new)) same (two (stream ++ first) (before ++ turns) (asked ++ requests) reached) in
    subst (λ (t : List ℕ). Hears old.offer t (before ++ (turns ++ more)) (outcome_of (asked ++ (requests ++ others)) new)) (append_assoc stream first second)
    (subst (λ (b : List Turn). Hears old.offer ((stream ++ first) ++ second) b (outcome_of (asked ++ (requests ++ others)) new)) (append_assoc before turns more)
    (subst (λ (r : List Message). Hears old.offer ((stream ++ first) ++ second) ((before ++ turns) ++ more) (outcome_of r new)) (append_assoc asked requests others) made))

answers_text-append : (turns more : List Turn) → answers_text (turns ++ more) ≡ answers_text turns ++ answers_text more
answers_text-append [] more = refl
answers_text-append (turn ∷ turns) more =
    ap (λ (t : List ℕ). answer_bytes turn.code turn.answer ++ t) (answers_text-append turns more) ∙ sym (append_assoc (answer_bytes turn.code turn.answer) (answers_text turns) (answers_text more))

pub Runs-start : (old : SessionState) (piece before : List ℕ) → Runs old piece piece before before old
Runs-start old piece before =
    record { turns = []; taken = []; parts = refl; hears = hears_none old; written = sym (append-nil before) }

pub Runs-next : (old between new : SessionState) (piece rest front behind before after later : List ℕ) → between.offer ≡ old.offer → Runs old piece rest before after between → rest ≡ front ++ behind → Advances between front after later new
    → Runs old piece behind before later new
Runs-next old between new piece rest front behind before after later same runs parts on = record {
  turns = runs.turns ++ on.turns;
  taken = runs.taken ++ front;
  parts = runs.parts ∙ ap (λ (t : List ℕ). runs.taken ++ t) parts ∙ sym (append_assoc runs.taken front behind);
  hears = hears_then old between new runs.taken front runs.turns on.turns [] [] same runs.hears on.hears;
  written = on.written ∙ ap (λ (t : List ℕ). t ++ answers_text on.turns) runs.written ∙ append_assoc before (answers_text runs.turns) (answers_text on.turns)
      ∙ ap (λ (t : List ℕ). before ++ t) (sym (answers_text-append runs.turns on.turns));
}
