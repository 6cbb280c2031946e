-- what one connection sent and was answered, in a log with an event more
use Rattle.std.proofs.Common.{◌≡◌, ℕ, Bool, true, false, if◌then◌else◌, List, [], ◌∷◌, ◌++◌, ap}
use Rattle.export_model.specs.declared.event.Event.{Event}
use Rattle.export_model.specs.OneLog.{events_of, is_by}

events_more : (c : ℕ) (log : List Event) (event : Event) (b : Bool) → is_by c event ≡ b → events_of c (log ++ event ∷ []) ≡ (if b then events_of c log ++ event ∷ [] else events_of c log)
events_more c [] event true is = ap (λ (b : Bool). if b then event ∷ [] else []) is
events_more c [] event false is = ap (λ (b : Bool). if b then event ∷ [] else []) is
events_more c (x ∷ log) event b is = by_head (is_by c x) b (events_more c log event b is)
  where
    by_head : (h b : Bool) → events_of c (log ++ event ∷ []) ≡ (if b then events_of c log ++ event ∷ [] else events_of c log)
        → (if h then x ∷ events_of c (log ++ event ∷ []) else events_of c (log ++ event ∷ [])) ≡ (if b then (if h then x ∷ events_of c log else events_of c log) ++ event ∷ [] else (if h then x ∷ events_of c log else events_of c log))
    by_head true true e = ap (λ (l : List Event). x ∷ l) e
    by_head true false e = ap (λ (l : List Event). x ∷ l) e
    by_head false true e = e
    by_head false false e = e

pub own_event : (c : ℕ) (log : List Event) (event : Event) → is_by c event ≡ true → events_of c (log ++ event ∷ []) ≡ events_of c log ++ event ∷ []
own_event c log event is = events_more c log event true is

pub other_event : (c : ℕ) (log : List Event) (event : Event) → is_by c event ≡ false → events_of c (log ++ event ∷ []) ≡ events_of c log
other_event c log event is = events_more c log event false is
