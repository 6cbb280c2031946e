-- Requests and their answers, one after another, and the text of the replies.
use Rattle.std.proofs.Common.{◌≡◌, ◌≢◌, ℕ, List, [], ◌∷◌, ◌++◌, Option, Some, None, refl, sym, ap, ◌∙◌, append_assoc}
use Rattle.std.proofs.lemmas.List.{append-nil}
use Rattle.std.specs.List.{AllByRecursion}
use Rattle.nbd_wire.specs.Request.{Message}
use Rattle.export_model.specs.declared.event.Event.{Event}
use Rattle.export_model.specs.declared.event.Event.TheVariants.{Sent, Answered}
use Rattle.nbdj_pipe.specs.Talk.{Exchange, asked, dialog, reply_to, talk, talk_to}
use Rattle.nbdj_pipe.specs.Pipe.{Conversation, IsServed, IsToDisc, IsWhole}

pub asked-append : (first more : List Exchange) → asked (first ++ more) ≡ asked first ++ asked more
asked-append [] more = refl
asked-append (exchange ∷ first) more = ap (λ (r : List Message). exchange.request ∷ r) (asked-append first more)

pub dialog-append : (first more : List Exchange) → dialog (first ++ more) ≡ dialog first ++ dialog more
dialog-append [] more = refl
dialog-append (exchange ∷ first) more =
    let reply = reply_to exchange.request.head.cookie exchange.answer in
    ap (λ (t : List ℕ). reply ++ t) (dialog-append first more) ∙ sym (append_assoc reply (dialog first) (dialog more))

talk-append : (first more : List Exchange) → talk (first ++ more) ≡ talk first ++ talk more
talk-append [] more = refl
talk-append (exchange ∷ first) more = ap (λ (e : List Event). Sent 0 exchange.request ∷ Answered 0 exchange.answer ∷ e) (talk-append first more)

pub talk_on : (first more : List Exchange) (last : Option Message) → talk_to (first ++ more) last ≡ talk first ++ talk_to more last
talk_on first more None = talk-append first more
talk_on first more (Some request) =
    ap (λ (e : List Event). e ++ Sent 0 request ∷ []) (talk-append first more) ∙ append_assoc (talk first) (talk more) (Sent 0 request ∷ [])

pub each_append : {X : Type 0} (P : X → Type 0) (xs ys : List X) → AllByRecursion P xs → AllByRecursion P ys → AllByRecursion P (xs ++ ys)
each_append P [] ys none behind = behind
each_append P (x ∷ xs) ys front behind = (front.0, each_append P xs ys front.1 behind)

-- no exchange has a DISC
abbrev pub HaveNoDisc : List Exchange → Type 0
HaveNoDisc exchanges = AllByRecursion (λ (exchange : Exchange). exchange.request.head.kind ≢ 2) exchanges

-- nothing was asked
abbrev pub nothing : Conversation
nothing = record { exchanges = []; unanswered = []; last = None; text = [] }

pub served_nothing : IsServed [] nothing
served_nothing = record { all = refl; no_disc = tt; first = tt; begins = ([], refl) }

pub whole_nothing : IsWhole nothing
whole_nothing = record { answered = refl; none = refl; text = refl }

-- these were answered, and nothing else was asked
abbrev pub all_of : List Exchange → Conversation
all_of exchanges = record { exchanges = exchanges; unanswered = []; last = None; text = dialog exchanges }

pub served_all : (exchanges : List Exchange) → HaveNoDisc exchanges → IsServed (asked exchanges) (all_of exchanges)
served_all exchanges none = record { all = sym (append-nil (asked exchanges)); no_disc = none; first = tt; begins = ([], sym (append-nil (dialog exchanges))) }

pub whole_all : (exchanges : List Exchange) → IsWhole (all_of exchanges)
whole_all exchanges = record { answered = refl; none = refl; text = refl }

-- what was answered before comes first
abbrev pub behind : List Exchange → Conversation → Conversation
behind first told = record { exchanges = first ++ told.exchanges; unanswered = told.unanswered; last = told.last; text = dialog first ++ told.text }

module _ (first : List Exchange) (told : Conversation) where
  pub served_behind : (requests : List Message) → HaveNoDisc first → IsServed requests told → IsServed (asked first ++ requests) (behind first told)
  served_behind requests none served =
      let (rest, parts) = served.begins in
      record {
        all = ap (λ (r : List Message). asked first ++ r) served.all ∙ sym (append_assoc (asked first) (asked told.exchanges) told.unanswered)
            ∙ ap (λ (r : List Message). r ++ told.unanswered) (sym (asked-append first told.exchanges));
        no_disc = each_append (λ (exchange : Exchange). exchange.request.head.kind ≢ 2) first told.exchanges none served.no_disc;
        first = served.first;
        begins = (rest, dialog-append first told.exchanges ∙ ap (λ (t : List ℕ). dialog first ++ t) parts ∙ sym (append_assoc (dialog first) told.text rest));
      }

  text_behind : told.text ≡ dialog told.exchanges → dialog first ++ told.text ≡ dialog (first ++ told.exchanges)
  text_behind is = ap (λ (t : List ℕ). dialog first ++ t) is ∙ sym (dialog-append first told.exchanges)

  pub whole_behind : IsWhole told → IsWhole (behind first told)
  whole_behind whole = record { answered = whole.answered; none = whole.none; text = text_behind whole.text }

  pub disc_behind : IsToDisc told → IsToDisc (behind first told)
  disc_behind to = record { disc = to.disc; more = to.more; kind = to.kind; answered = to.answered; last = to.last; text = text_behind to.text }

-- only the first bytes of the text were written
pub served_cut : (requests : List Message) (told : Conversation) (written left : List ℕ) → told.text ≡ written ++ left → IsServed requests told → IsServed requests (record told { text = written })
served_cut requests told written left parts served =
    let (rest, whole) = served.begins in
    record {
      all = served.all;
      no_disc = served.no_disc;
      first = served.first;
      begins = (left ++ rest, whole ∙ ap (λ (t : List ℕ). t ++ rest) parts ∙ append_assoc written left rest);
    }

-- what was asked of whole conversations
pub asked_whole : (requests : List Message) (told : Conversation) → IsServed requests told → IsWhole told → requests ≡ asked told.exchanges
asked_whole requests told served whole =
    served.all ∙ ap (λ (r : List Message). asked told.exchanges ++ r) whole.answered ∙ append-nil (asked told.exchanges)
