-- logs with an event more
use Rattle.std.proofs.Common.{◌≡◌, ◌⊎◌, inl, inr, ℕ, zero, suc, ◌<◌, Some, List, [], ◌∷◌, ◌++◌, length, sym, ap, refl, arith}
use Rattle.std.specs.List.{slice_get}
use Rattle.std.proofs.lemmas.Option.{slice_get_within}
use Rattle.nbd_wire.specs.Request.{Message}
use Rattle.export_model.specs.declared.event.Event.{Event}
use Rattle.export_model.specs.declared.event.Event.TheVariants.{Sent, Answered}
use Rattle.nbd_wire.specs.declared.message.Answer.{Answer}
use Rattle.export_model.specs.Log.{StandsAt, IsAnswered}

-- an element of a list is one of a longer list
pub get_more : {X : Type 0} (xs ys : List X) (k : ℕ) (x : X) → slice_get xs k ≡ Some x → slice_get (xs ++ ys) k ≡ Some x
get_more [] ys k x is = cc
get_more (y ∷ xs) ys zero x is = is
get_more (y ∷ xs) ys (suc k) x is = get_more xs ys k x is

-- an element of a list with one item more is one of the list, or the item
pub get_split : {X : Type 0} (xs : List X) (y : X) (k : ℕ) (x : X) → slice_get (xs ++ y ∷ []) k ≡ Some x → (slice_get xs k ≡ Some x) ⊎ ((k ≡ length xs) × (x ≡ y))
get_split [] y zero x is = inr (refl, cc)
get_split [] y (suc k) x is = cc
get_split (z ∷ xs) y zero x is = inl is
get_split (z ∷ xs) y (suc k) x is = sum_more (get_split xs y k x is)
  where
    sum_more : (slice_get xs k ≡ Some x) ⊎ ((k ≡ length xs) × (x ≡ y)) → (slice_get xs k ≡ Some x) ⊎ ((suc k ≡ suc (length xs)) × (x ≡ y))
    sum_more (inl at) = inl at
    sum_more (inr last) = inr (ap suc last.0, last.1)

pub get_last : {X : Type 0} (xs : List X) (y : X) → slice_get (xs ++ y ∷ []) (length xs) ≡ Some y
get_last [] y = refl
get_last (x ∷ xs) y = get_last xs y

pub get_before : {X : Type 0} (xs : List X) (y : X) (k : ℕ) (x : X) → k < length xs → slice_get (xs ++ y ∷ []) k ≡ Some x → slice_get xs k ≡ Some x
get_before xs y k x below is = before (get_split xs y k x is)
  where
    before : (slice_get xs k ≡ Some x) ⊎ ((k ≡ length xs) × (x ≡ y)) → slice_get xs k ≡ Some x
    before (inl at) = at
    before (inr last) = absurd (omega (arith, last.0, below))

-- the event more is the answer to this request
pub record IsLast (log : List Event) (event : Event) (connection place : ℕ) (request : Message) (answer : ℕ) (outcome : Answer) : Type 0 where
  pub sent : StandsAt log place (Sent connection request)
  pub is : event ≡ Answered connection outcome
  pub at : answer ≡ length log
  pub first : (k : ℕ) (other : Answer) → place < k → StandsAt log k (Answered connection other) → ⊥

module _ (log : List Event) (event : Event) (connection place : ℕ) (request : Message) (answer : ℕ) (outcome : Answer) where
  -- an answer stays one
  pub answered_more : IsAnswered log connection place request answer outcome → IsAnswered (log ++ event ∷ []) connection place request answer outcome
  answered_more old =
      let below = slice_get_within log answer (Answered connection outcome) old.answered in
      record {
        sent = get_more log (event ∷ []) place (Sent connection request) old.sent;
        later = old.later;
        answered = get_more log (event ∷ []) answer (Answered connection outcome) old.answered;
        first = λ between other after before at. old.first between other after before (get_before log event between (Answered connection other) (omega arith) at);
      }

  -- an answer was one already, or is the last event
  pub answered_split : IsAnswered (log ++ event ∷ []) connection place request answer outcome
      → IsAnswered log connection place request answer outcome ⊎ IsLast log event connection place request answer outcome
  answered_split new = split (get_split log event answer (Answered connection outcome) new.answered)
    where
      split : (slice_get log answer ≡ Some (Answered connection outcome)) ⊎ ((answer ≡ length log) × (Answered connection outcome ≡ event))
          → IsAnswered log connection place request answer outcome ⊎ IsLast log event connection place request answer outcome
      split (inl at) =
          let below = slice_get_within log answer (Answered connection outcome) at in
          let later = new.later in
          inl (record {
            sent = get_before log event place (Sent connection request) (omega arith) new.sent;
            later = new.later;
            answered = at;
            first = λ between other after before is. new.first between other after before (get_more log (event ∷ []) between (Answered connection other) is);
          })
      split (inr last) =
          let later = new.later in
          let at = last.0 in
          inr (record {
            sent = get_before log event place (Sent connection request) (omega arith) new.sent;
            is = sym last.1;
            at = last.0;
            first = λ k other after is. let below = slice_get_within log k (Answered connection other) is in
                new.first k other after (omega arith) (get_more log (event ∷ []) k (Answered connection other) is);
          })
