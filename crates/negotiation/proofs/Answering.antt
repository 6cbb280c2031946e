-- How requests are answered one after another.
use Rattle.std.proofs.Common.{◌≡◌, ℕ, Bool, true, false, List, [], ◌∷◌, ◌++◌, Option, Result, Ok, Err, refl, sym, ap, subst, ◌∙◌, append_assoc}
use Rattle.std.proofs.lemmas.List.{append-nil, reverse-append, reverse-reverse}
use Rattle.std.proofs.lemmas.List.Folds.{list_any-append}
use Rattle.std.specs.List.{list_any}
use Rattle.std.specs.Prelude.{IsErr, is_ok, reverse, ◌||◌}
use Rattle.std.specs.Io.KnownBytes.{Appends}
use Rattle.nbd_wire.specs.Request.{Message}
use Rattle.nbd_wire.specs.Reply.{reply_text}
use Rattle.nbd_wire.specs.declared.message.Reply.{Reply}
use Rattle.nbd_wire.specs.declared.head.RequestHead.{RequestHead}
use Rattle.nbd_wire.specs.declared.message.SessionFlags.{SessionFlags}
use Rattle.negotiation.specs.Dialog.{HasNoDisc, is_disc}
use Rattle.negotiation.specs.declared.end.End.{End}
use Rattle.nbd_wire.specs.Writes.{WritesPart}
use Rattle.nbd_wire.specs.declared.bytes.StreamFault.{StreamFault}
use Rattle.negotiation.specs.inner.Streams.{Writes}
use Rattle.negotiation.specs.Talk.{Answers, AreSteps, Exchange, asked, exchange_text, is_whole, talk_text}
use Rattle.negotiation.specs.inner.Talk.{ServesOn}
use Rattle.nbd_wire.specs.laws.Bytes.{appends_none, appends_on}

-- ---- writing

pub writes_part : (old new : Option (List ℕ)) (before after : List ℕ) (result : Result (Unit {0}) StreamFault) → WritesPart old new before result → after ≡ [] → Writes old new before after (is_ok result)
writes_part old new before after (Ok done) part none = record { text = before; unsent = []; begins = sym (append-nil before); written = part; left = λ e. none }
writes_part old new before after (Err fault) part none = record { text = part.0; unsent = part.1; begins = part.2; written = part.3; left = λ e. cc }

-- what wasn't written is lost, and so is what stands after it
pub writes_less : (old new : Option (List ℕ)) (before more after left : List ℕ) (result : Result (Unit {0}) StreamFault) → IsErr result → Writes old new before after false → Writes old new (before ++ more) left (is_ok result)
writes_less old new before more after left (Ok done) is writes = cc
writes_less old new before more after left (Err fault) is writes = record {
  text = writes.text;
  unsent = writes.unsent ++ more;
  begins = ap (λ (t : List ℕ). t ++ more) writes.begins ∙ append_assoc writes.text writes.unsent more;
  written = writes.written;
  left = λ e. cc;
}

-- all of it was written, and then what stands after it
pub writes_both : (old mid new : Option (List ℕ)) (before more between after : List ℕ) (ok : Bool) → between ≡ [] → Writes old mid before between true → Writes mid new more after ok → Writes old new (before ++ more) after ok
writes_both old mid new before more between after ok none one two = record {
  text = one.text ++ two.text;
  unsent = two.unsent;
  begins = ap (λ (t : List ℕ). t ++ more) (one.begins ∙ ap (λ (t : List ℕ). one.text ++ t) (sym (one.left refl) ∙ none) ∙ append-nil one.text)
      ∙ ap (λ (t : List ℕ). one.text ++ t) two.begins ∙ sym (append_assoc one.text two.text two.unsent);
  written = appends_on old mid new one.text two.text one.written two.written;
  left = two.left;
}

pub err_not_ok : (result : Result (Unit {0}) End) → IsErr result → is_ok result ≡ true → ⊥
err_not_ok (Ok done) is ok = cc
err_not_ok (Err end) is ok = cc

-- nothing was written, and what was due is lost
pub writes_none : (output : Option (List ℕ)) (before after : List ℕ) (result : Result (Unit {0}) End) → IsErr result → Writes output output before after (is_ok result)
writes_none output before after result is = record { text = []; unsent = before; begins = refl; written = appends_none output; left = λ ok. absurd (err_not_ok result is ok) }

-- the same text under another name, and an error that passes a failed write on
pub writes_as : (old new : Option (List ℕ)) (before named after : List ℕ) (is_kept : Bool) → before ≡ named → Writes old new before after is_kept → Writes old new named after is_kept
writes_as old new before named after is_kept same writes = subst (λ (b : List ℕ). Writes old new b after is_kept) same writes

pub writes_failed : (old new : Option (List ℕ)) (before after : List ℕ) (result : Result (Unit {0}) End) → IsErr result → Writes old new before after false → Writes old new before after (is_ok result)
writes_failed old new before after (Ok done) is writes = cc
writes_failed old new before after (Err end) is writes = writes

-- a reply as it was encoded for the head that was read
pub encoded : (flags : SessionFlags) (request : Message) (reply : Reply) (head : RequestHead) (df : Bool) (due bytes : List ℕ) → head ≡ request.head → df ≡ is_whole head
    → bytes ≡ due ++ reply_text flags head.kind df reply → bytes ≡ due ++ exchange_text flags (record { request = request; reply = reply })
encoded flags request reply head df due bytes read whole is =
    is ∙ ap (λ (d : Bool). due ++ reply_text flags head.kind d reply) whole ∙ ap (λ (h : RequestHead). due ++ reply_text flags h.kind (is_whole h) reply) read

-- ---- requests that are no DISC

neither : (a b : Bool) → (a || b) ≡ false → (a ≡ false) × (b ≡ false)
neither true b is = cc
neither false b is = (refl, is)

pub before_last : (rest : List Message) (request : Message) → HasNoDisc (rest ++ request ∷ []) → HasNoDisc rest × (is_disc request ≡ false)
before_last rest request none =
    let both = neither (list_any is_disc rest) (is_disc request || false) (sym (list_any-append is_disc rest (request ∷ [])) ∙ none) in
    (both.0, (neither (is_disc request) false both.1).0)

pub none_turned : (requests : List Message) → HasNoDisc requests → HasNoDisc (reverse requests)
none_turned [] none = refl
none_turned (request ∷ requests) none =
    let both = neither (is_disc request) (list_any is_disc requests) none in
    ap (list_any is_disc) (reverse-append (request ∷ []) requests) ∙ list_any-append is_disc (reverse requests) (request ∷ [])
    ∙ ap (λ (b : Bool). b || (is_disc request || false)) (none_turned requests both.1) ∙ ap (λ (b : Bool). b || false) both.0

-- ---- exchanges

pub asked-append : (first more : List Exchange) → asked (first ++ more) ≡ asked first ++ asked more
asked-append [] more = refl
asked-append (exchange ∷ first) more = ap (λ (r : List Message). exchange.request ∷ r) (asked-append first more)

pub talk_text-append : (flags : SessionFlags) (first more : List Exchange) → talk_text flags (first ++ more) ≡ talk_text flags first ++ talk_text flags more
talk_text-append flags [] more = refl
talk_text-append flags (exchange ∷ first) more =
    ap (λ (t : List ℕ). exchange_text flags exchange ++ t) (talk_text-append flags first more) ∙ sym (append_assoc (exchange_text flags exchange) (talk_text flags first) (talk_text flags more))

-- the requests were turned round, and some of them were served from the end
module _ (all back left served : List Message) (turned : back ≡ reverse all) (whole : reverse back ≡ served ++ reverse left) where
  again : all ≡ reverse back
  again = sym (ap reverse turned ∙ reverse-reverse all)

  -- the last of the list is the next
  pub next_served : (rest : List Message) (request : Message) → left ≡ rest ++ request ∷ [] → reverse back ≡ (served ++ request ∷ []) ++ reverse rest
  next_served rest request ends =
      whole ∙ ap (λ (r : List Message). served ++ reverse r) ends
      ∙ ap (λ (r : List Message). served ++ r) (reverse-append rest (request ∷ [])) ∙ sym (append_assoc served (request ∷ []) (reverse rest))

  pub all_left : all ≡ served ++ reverse left
  all_left = again ∙ whole

module _ {P : Type 0} (allows : P → Message → SessionFlags → P → Reply → Type 0) (flags : SessionFlags) where
  pub steps_on : (old between new : P) (first more : List Exchange) → AreSteps allows flags old first between → AreSteps allows flags between more new → AreSteps allows flags old (first ++ more) new
  steps_on old between new [] more one two = subst (λ (p : P). AreSteps allows flags p more new) one two
  steps_on old between new (exchange ∷ first) more one two = (one.0, one.1, steps_on one.0 between new first more one.2 two)

  -- the first requests were answered; some of the text was written, and the rest of it is due
  pub record Answering (old : P) (exchanges : List Exchange) (pass : P) (output made : Option (List ℕ)) (due : List ℕ) : Type 0 where
    pub steps : AreSteps allows flags old exchanges pass
    pub text : List ℕ
    pub begins : talk_text flags exchanges ≡ text ++ due
    pub written : Appends output made text

  module _ (old pass : P) (output made : Option (List ℕ)) (due : List ℕ) where
    pub answering_none : pass ≡ old → made ≡ output → due ≡ [] → Answering old [] pass output made due
    answering_none same_pass same_made none = record {
      steps = same_pass;
      text = [];
      begins = sym none;
      written = subst (λ (m : Option (List ℕ)). Appends output m []) (sym same_made) (appends_none output);
    }

    pub answering_write : (exchanges : List Exchange) → Answering old exchanges pass output made due → (later : Option (List ℕ)) (left : List ℕ) → Writes made later due left true → Answering old exchanges pass output later left
    answering_write exchanges going later left writes = record {
      steps = going.steps;
      text = going.text ++ writes.text;
      begins = going.begins ∙ ap (λ (t : List ℕ). going.text ++ t) (writes.begins ∙ ap (λ (t : List ℕ). writes.text ++ t) (sym (writes.left refl))) ∙ sym (append_assoc going.text writes.text left);
      written = appends_on output made later going.text writes.text going.written writes.written;
    }

    -- a write failed, or was the last
    pub answers_written : (exchanges : List Exchange) (going : Answering old exchanges pass output made due) (later : Option (List ℕ)) (left : List ℕ) (ok : Bool) → Writes made later due left ok → (requests unanswered : List Message) → requests ≡ asked exchanges ++ unanswered
        → (is_whole : Bool) → (is_whole ≡ true → (unanswered ≡ []) × (left ≡ []) × (ok ≡ true)) → Answers allows flags old requests pass output later is_whole
    answers_written exchanges going later left ok writes requests unanswered all is_whole whole = record {
      exchanges = exchanges;
      unanswered = unanswered;
      all = all;
      steps = going.steps;
      text = going.text ++ writes.text;
      unsent = writes.unsent;
      begins = going.begins ∙ ap (λ (t : List ℕ). going.text ++ t) writes.begins ∙ sym (append_assoc going.text writes.text writes.unsent);
      written = appends_on output made later going.text writes.text going.written writes.written;
      whole = λ is. ((whole is).0, sym (writes.left (whole is).2) ∙ (whole is).1);
    }

    module _ (exchanges : List Exchange) (going : Answering old exchanges pass output made due) (request : Message) (new : P) (later : Option (List ℕ)) (after : List ℕ) (ok : Bool) (serves : ServesOn allows flags pass request new made later due after ok) where
      abbrev pub exchange : Exchange
      exchange = record { request = request; reply = serves.reply }

      served : AreSteps allows flags old (exchanges ++ exchange ∷ []) new
      served = steps_on old pass new exchanges (exchange ∷ []) going.steps (new, serves.step, refl)

      text_on : talk_text flags (exchanges ++ exchange ∷ []) ≡ going.text ++ (due ++ exchange_text flags exchange)
      text_on =
          talk_text-append flags exchanges (exchange ∷ []) ∙ ap (λ (t : List ℕ). talk_text flags exchanges ++ t) (append-nil (exchange_text flags exchange))
          ∙ ap (λ (t : List ℕ). t ++ exchange_text flags exchange) going.begins ∙ append_assoc going.text due (exchange_text flags exchange)

      pub answering_next : ok ≡ true → Answering old (exchanges ++ exchange ∷ []) new output later after
      answering_next is = record {
        steps = served;
        text = going.text ++ serves.writes.text;
        begins = text_on ∙ ap (λ (t : List ℕ). going.text ++ t) serves.writes.begins
            ∙ ap (λ (t : List ℕ). going.text ++ (serves.writes.text ++ t)) (sym (serves.writes.left is)) ∙ sym (append_assoc going.text serves.writes.text after);
        written = appends_on output made later going.text serves.writes.text going.written serves.writes.written;
      }

      pub asked_next : asked (exchanges ++ exchange ∷ []) ≡ asked exchanges ++ request ∷ []
      asked_next = asked-append exchanges (exchange ∷ [])

      -- there was no memory for the reply, or it wasn't written
      pub answers_unwritten : (requests unanswered : List Message) → requests ≡ (asked exchanges ++ request ∷ []) ++ unanswered → (is_whole : Bool) → (is_whole ≡ true → ⊥) → Answers allows flags old requests new output later is_whole
      answers_unwritten requests unanswered all is_whole part = record {
        exchanges = exchanges ++ exchange ∷ [];
        unanswered = unanswered;
        all = all ∙ ap (λ (r : List Message). r ++ unanswered) (sym asked_next);
        steps = served;
        text = going.text ++ serves.writes.text;
        unsent = serves.writes.unsent;
        begins = text_on ∙ ap (λ (t : List ℕ). going.text ++ t) serves.writes.begins ∙ sym (append_assoc going.text serves.writes.text serves.writes.unsent);
        written = appends_on output made later going.text serves.writes.text going.written serves.writes.written;
        whole = λ is. absurd (part is);
      }
