-- What is said of a pass whose client has just sent a request is said of the pass before that, and of the pass once the answer is logged.
use Rattle.std.proofs.Common.{◌≡◌, ◌⊎◌, ◌∙◌, ◌≤◌, ◌+◌, inl, inr, ℕ, true, Some, [], ◌∷◌, ◌++◌, append_assoc, ap, subst, arith}
use mathlib.Core.List.{IsPrefix}
use Rattle.image_model.specs.Image.{Image}
use Rattle.marks.specs.Client.{answering, sending}
use Rattle.marks.specs.Known.{OwnCommands, PassState, known}
use Rattle.marks.specs.declared.view.Client.{Client}
use Rattle.marks.specs.laws.Beginnings.{prefix_trans}
use Rattle.nbd_wire.specs.Request.{Message}
use Rattle.nbd_wire.specs.declared.message.Answer.{Answer}
use Rattle.export_model.specs.Log.{edit_asked, is_write}
use Rattle.image_model.specs.Edit.{becomes}
use Rattle.export_model.specs.declared.event.Event.TheVariants.{Answered, Sent}
use Rattle.export_model.specs.declared.step.Mode.{Mode}
use Rattle.export.specs.Submits.{IsAccepted, IsSubmitted}

module _ (opening : ℕ) (first : Image) (Sure : Type 0 → Type 0) (request : Message) (kept : Mode) (old begun mid : PassState) (client : Client)
    (more : known old ≤ begun.accepted) (seen : IsPrefix old.history begun.history) (began : begun ≡ record old { history = begun.history; accepted = begun.accepted; client = begun.client }) where
  abbrev after : PassState
  after = record mid { client = client }

  known_more : known old ≤ known begun
  known_more = omega (arith, more)

  own_same : begun.own ≡ old.own
  own_same = ap (λ (p : PassState). p.own) began

  durable_same : begun.durable ≡ old.durable
  durable_same = ap (λ (p : PassState). p.durable) began

  accepted : (number : ℕ) → IsAccepted opening first Sure request number begun mid → IsAccepted opening first Sure request number old after
  accepted number is = record {
    above = let above = is.above in omega (arith, above, known_more);
    image = is.image;
    own = subst (λ (o : OwnCommands). mid.own ≡ record { count = o.count + 1; last = Some (record { number = number; change = becomes (edit_asked request) is.image }) }) own_same is.own;
    earlier = is.earlier;
    knew = prefix_trans old.history begun.history is.earlier seen is.knew;
    place = is.place;
    within = is.within;
    over = is.over;
  }

  pub begun_for : (answer : Answer) → IsSubmitted opening first Sure request kept begun mid answer → IsSubmitted opening first Sure request kept old after answer
  begun_for answer is = record {
    knew = prefix_trans old.history begun.history mid.history seen is.knew;
    lasts = let lasts = is.lasts in omega (arith, lasts, durable_same);
    written = λ done write. let (number, own, stored) = is.written done write in (number, accepted number own, stored);
    ordered = λ done flush. let less = is.ordered done flush in omega (arith, less, known_more);
    flushed = λ done flush stored. let less = is.flushed done flush stored in omega (arith, less, known_more);
    covered = λ done flush stored.
        let covers = is.covered done flush stored in record {
          covered = covers.covered;
          knew = prefix_trans old.history begun.history covers.covered seen covers.knew;
          within = covers.within;
          durable = covers.durable;
        };
    refused = λ errno is_errno other.
        let left = is.refused errno is_errno other in
        ap (λ (p : PassState). record p { client = client }) left ∙ ap (λ (p : PassState). record p { history = mid.history; accepted = mid.accepted; client = client }) began;
    own = by is.own;
  }
    where
      by : (mid.own ≡ begun.own) ⊎ ((is_write request ≡ true) × (number : ℕ) × IsAccepted opening first Sure request number begun mid)
          → (mid.own ≡ old.own) ⊎ ((is_write request ≡ true) × (number : ℕ) × IsAccepted opening first Sure request number old after)
      by (inl same) = inl (same ∙ own_same)
      by (inr (write, number, own)) = inr (write, number, accepted number own)

-- a client that has sent a request, has come to another state and was answered
module _ (client mid : Client) (request : Message) (outcome : Answer) (is : mid ≡ record (sending client request) { state = mid.state }) where
  pub called_by : (answering mid outcome).by ≡ client.by
  called_by = ap (λ (c : Client). c.by) is

  pub called : (answering mid outcome).mine ≡ client.mine ++ Sent client.by request ∷ Answered client.by outcome ∷ []
  called =
      let by = called_by in let mine = ap (λ (c : Client). c.mine) is in
      (λ i. mine i ++ Answered (by i) outcome ∷ []) ∙ append_assoc client.mine (Sent client.by request ∷ []) (Answered client.by outcome ∷ [])
