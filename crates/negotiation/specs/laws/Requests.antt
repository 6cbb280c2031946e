-- What a reader of requests hands out, up to a DISC.
use Rattle.std.proofs.Common.{◌≡◌, ◌+◌, inl, inr, ℕ, Bool, true, false, cond, suc, List, [], ◌∷◌, ◌++◌, length, take, refl, sym, ap, subst, ◌∙◌, append_assoc, arith}
use Rattle.std.specs.Prelude.{Some, None, not, ◌||◌, nat_lt}
use Rattle.std.specs.List.{before_first, list_any, position, position_or_len}
use Rattle.std.proofs.lemmas.Bool.{lt-ltb}
use Rattle.std.proofs.lemmas.Bool.Decides.{nat_tests}
use Rattle.std.proofs.lemmas.Option.{cond_some}
use Rattle.std.proofs.lemmas.List.{append-nil}
use Rattle.std.proofs.lemmas.List.Folds.{list_any-append}
use Rattle.nbd_wire.specs.Request.{Message}
use Rattle.nbd_wire.specs.Stream.{Begins, Feeds, Kept, Reader, Reads, reading, starved}
use Rattle.negotiation.specs.Dialog.{before_disc, ended, in_requests, is_disc}
use Rattle.negotiation.specs.inner.Session.{Hands}
use Rattle.negotiation.specs.laws.Dialogs.{hears_on}

-- ---- the place of the first that passes a test

lt_step : (a b : ℕ) → nat_lt a b ≡ nat_lt (1 + a) (suc b)
lt_step a b = grind (arith, nat_tests)

any_place : {X : Type 0} (p : X → Bool) (xs : List X) → list_any p xs ≡ nat_lt (position_or_len p xs) (length xs)
any_place p [] = refl
any_place p (x ∷ xs) =
    let again = any_place p xs in
    elim (p x) as (λ b. (b || list_any p xs) ≡ nat_lt (cond (not b) (1 + position_or_len p xs) 0) (suc (length xs))) [
      | true ↦ sym (lt-ltb 0 (suc (length xs)) (omega arith))
      | false ↦ again ∙ lt_step (position_or_len p xs) (length xs)
    ]

or_false : (a b : Bool) → (a || b) ≡ false → (a ≡ false) × (b ≡ false)
or_false true b e = cc
or_false false b e = (refl, e)

take_step : {X : Type 0} (n : ℕ) (x : X) (xs : List X) → take (1 + n) (x ∷ xs) ≡ x ∷ take n xs
take_step n x xs =
    let same : 1 + n ≡ suc n = omega arith in ap (λ (k : ℕ). take k (x ∷ xs)) same

before_first-append : {X : Type 0} (p : X → Bool) (xs ys : List X) → list_any p xs ≡ false → before_first p (xs ++ ys) ≡ xs ++ before_first p ys
before_first-append p [] ys none = refl
before_first-append p (x ∷ xs) ys none =
    let both = or_false (p x) (list_any p xs) none in
    subst (λ (b : Bool). take (cond (not b) (1 + position_or_len p (xs ++ ys)) 0) (x ∷ (xs ++ ys)) ≡ x ∷ (xs ++ before_first p ys)) (sym both.0)
    (take_step (position_or_len p (xs ++ ys)) x (xs ++ ys) ∙ ap (λ t. x ∷ t) (before_first-append p xs ys both.1))

-- what stands after the first that passes makes no difference
pub before_first-found : {X : Type 0} (p : X → Bool) (xs ys : List X) → list_any p xs ≡ true → before_first p (xs ++ ys) ≡ before_first p xs
before_first-found p [] ys some = absurd (cc some)
before_first-found p (x ∷ xs) ys some =
    elim (p x) as (λ b. (b || list_any p xs) ≡ true → take (cond (not b) (1 + position_or_len p (xs ++ ys)) 0) (x ∷ (xs ++ ys)) ≡ take (cond (not b) (1 + position_or_len p xs) 0) (x ∷ xs)) [
      | true ↦ λ is. refl
      | false ↦ λ is. take_step (position_or_len p (xs ++ ys)) x (xs ++ ys) ∙ ap (λ t. x ∷ t) (before_first-found p xs ys is) ∙ sym (take_step (position_or_len p xs) x xs)
    ] some

pub found_place : {X : Type 0} (p : X → Bool) (xs : List X) (place : ℕ) → position p xs ≡ Some place → (list_any p xs ≡ true) × (take place xs ≡ before_first p xs)
found_place p xs place is =
    let both = cond_some (nat_lt (position_or_len p xs) (length xs)) (position_or_len p xs) place is in
    (any_place p xs ∙ both.0, ap (λ (n : ℕ). take n xs) (sym both.1))

-- before the first that passes none does
pub none_before_first : {X : Type 0} (p : X → Bool) (xs : List X) → list_any p (before_first p xs) ≡ false
none_before_first p [] = refl
none_before_first p (x ∷ xs) =
    elim (p x) as (λ b. p x ≡ b → list_any p (take (cond (not b) (1 + position_or_len p xs) 0) (x ∷ xs)) ≡ false) [
      | true ↦ λ is. refl
      | false ↦ λ is. ap (list_any p) (take_step (position_or_len p xs) x xs) ∙ ap (λ (b : Bool). b || list_any p (before_first p xs)) is ∙ none_before_first p xs
    ] refl

none_where : {X : Type 0} (b : Bool) (x : X) → cond b (Some x) None ≡ None → b ≡ false
none_where true x e = cc
none_where false x e = refl

pub no_place : {X : Type 0} (p : X → Bool) (xs : List X) → position p xs ≡ None → list_any p xs ≡ false
no_place p xs is = any_place p xs ∙ none_where (nat_lt (position_or_len p xs) (length xs)) (position_or_len p xs) is

-- ---- requests

any_behind : (asked requests : List Message) (b : Bool) → list_any is_disc asked ≡ false → list_any is_disc requests ≡ b → list_any is_disc (asked ++ requests) ≡ b
any_behind asked requests b none is = list_any-append is_disc asked requests ∙ ap (λ (a : Bool). a || list_any is_disc requests) none ∙ is

pub hands_none : (old new : Reader) (piece : List ℕ) (requests : List Message) → Feeds old piece requests new → list_any is_disc requests ≡ false → Hands (in_requests old) piece requests (in_requests new)
hands_none (reading old) (reading new) piece requests feeds none = record {
  first = piece;
  rest = [];
  between = in_requests (reading new);
  parts = sym (append-nil piece);
  said = tt;
  behind = λ b. tt;
  hears = λ offer flags. hears_on offer piece [] requests flags flags (in_requests (reading old)) (in_requests (reading new))
      (record { leaves = λ text p. absurd p; asks = λ text asked p. (refl, refl, (feeds text asked p.0, any_behind asked requests false p.1 none)); ends = λ e. cc; breaks = λ e. cc })
      (λ text p e. absurd p);
  whole = inr (refl, refl);
}
hands_none (reading old) starved piece requests feeds none = record {
  first = feeds.0;
  rest = feeds.1;
  between = in_requests (reading feeds.2);
  parts = feeds.3;
  said = tt;
  behind = λ b. tt;
  hears = λ offer flags. hears_on offer feeds.0 [] requests flags flags (in_requests (reading old)) (in_requests (reading feeds.2))
      (record { leaves = λ text p. absurd p; asks = λ text asked p. (refl, refl, (feeds.4 text asked p.0, any_behind asked requests false p.1 none)); ends = λ e. cc; breaks = λ e. cc })
      (λ text p e. absurd p);
  whole = inl (refl, inr tt);
}
hands_none starved new piece requests feeds none = record {
  first = piece;
  rest = [];
  between = in_requests new;
  parts = sym (append-nil piece);
  said = tt;
  behind = λ b. tt;
  hears = λ offer flags. hears_on offer piece [] requests flags flags (in_requests starved) (in_requests new)
      (record { leaves = λ text p. absurd p; asks = λ text asked p. absurd p; ends = λ e. cc; breaks = λ e. cc })
      (λ text p e. absurd p);
  whole = inr (refl, refl);
}

-- the requests that were read begin the stream
begun : (old : Kept) (new : Reader) (piece : List ℕ) (requests : List Message) → Feeds (reading old) piece requests new → (text : List ℕ) (asked : List Message) → Reads text asked old → Begins (text ++ piece) (asked ++ requests)
begun old (reading new) piece requests feeds text asked reads =
    record { first = text ++ piece; rest = []; kept = new; parts = sym (append-nil (text ++ piece)); reads = feeds text asked reads }
begun old starved piece requests feeds text asked reads = record {
  first = text ++ feeds.0;
  rest = feeds.1;
  kept = feeds.2;
  parts = ap (λ (t : List ℕ). text ++ t) feeds.3 ∙ sym (append_assoc text feeds.0 feeds.1);
  reads = feeds.4 text asked reads;
}

pub hands_disc : (old new : Reader) (piece : List ℕ) (requests : List Message) → Feeds old piece requests new → list_any is_disc requests ≡ true → Hands (in_requests old) piece (before_disc requests) ended
hands_disc (reading old) new piece requests feeds some = record {
  first = piece;
  rest = [];
  between = ended;
  parts = sym (append-nil piece);
  said = tt;
  behind = λ b. tt;
  hears = λ offer flags. hears_on offer piece [] (before_disc requests) flags flags (in_requests (reading old)) ended
      (record {
        leaves = λ text p. absurd p;
        asks = λ text asked p. (
          refl,
          refl,
          (
            asked ++ requests,
            begun old new piece requests feeds text asked p.0,
            any_behind asked requests true p.1 some,
            sym (before_first-append is_disc asked requests p.1),
          ),
        );
        ends = λ e. cc;
        breaks = λ e. cc;
      })
      (λ text p e. absurd p);
  whole = inr (refl, refl);
}
hands_disc starved new piece requests feeds some =
    let none : false ≡ true = ap (list_any is_disc) (sym feeds.0) ∙ some in
    absurd (cc none)
