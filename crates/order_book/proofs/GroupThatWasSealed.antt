-- what a group is that was sealed
use Rattle.std.proofs.Common.{◌≡◌, ◌+◌, ◌≤◌, ◌<◌, ◌++◌, ◌⊎◌, ◌∙◌, ◌∷◌, [], inl, inr, ℕ, List, length, take, drop, ap, arith, length-take, length-drop, refl, subst, sym}
use Rattle.std.specs.List.{All}
use Rattle.std.proofs.Math.ListN.{take-append-drop}
use Rattle.std.proofs.lemmas.List.Elements.{All-drop, All-take}
use Rattle.image_model.specs.Bodies.{body_limit}
use Rattle.image_model.specs.Command.{bodies_of}
use Rattle.image_model.specs.declared.command.Command.{Command}
use Rattle.journal_format.specs.Group.{Numbered}
use Rattle.order_book.specs.Order.{IsInHand, IsOrder, OrderState, Seals}
use Rattle.order_book.specs.Pending.{HasSmallBody}
use Rattle.order_book.specs.inner.Pending.{IsLongest}

module _ (order : OrderState) (count spare left opening accepted : ℕ) (rest : List Command) (is : IsOrder order spare opening accepted)
    (longest : IsLongest (body_limit order.area) order.pending count) (rest_is : rest ≡ drop count order.pending) where
  abbrev sealed : OrderState
  sealed = record order { sealed = order.sealed + count; in_hand = count; pending = rest }

  pub order_sealed : left ≡ spare + count → IsOrder sealed left opening accepted
  order_sealed more = record {
    numbers = record {
      pending = omega (arith, ap length rest_is, length-drop count order.pending, is.numbers.pending, longest.within);
      backlog = is.numbers.backlog;
      history = is.numbers.history;
      opened = (is.numbers.opened.0, omega (arith, is.numbers.opened.1));
      mark = is.numbers.mark;
    };
    named = is.named;
    shown = is.shown;
    backlog = is.backlog;
    small = subst (λ (l : List Command). All HasSmallBody l) (sym rest_is) (All-drop HasSmallBody count order.pending is.small);
    area = is.area;
    dirty = is.dirty;
    kept = omega (arith, more);
  }

  module _ (items : List Command) (items_are : items ≡ take count order.pending) where
    abbrev group : Numbered
    group = record { first = order.sealed + 1; commands = items }

    whole : length items ≡ count
    whole = omega (arith, ap length items_are, length-take count order.pending, longest.within)

    small : All HasSmallBody items
    small = subst (λ (l : List Command). All HasSmallBody l) (sym items_are) (All-take HasSmallBody count order.pending is.small)

    pub in_hand : IsInHand sealed group
    in_hand = record { last = omega (arith, whole); whole = whole; small = small }

    pub seals : 0 < count → Seals order sealed group
    seals some = record {
      some = omega (arith, whole, some);
      first = λ i. order.sealed + 1;
      beginning = sym (take-append-drop count order.pending) ∙ (λ i. sym items_are i ++ sym rest_is i);
      fits = subst (λ (l : List Command). bodies_of l ≤ body_limit order.area) (sym items_are) longest.fits;
      longest = λ more longer within. longest.longest more (omega (arith, whole, longer)) within;
      small = small;
      rest = ap (λ (n : ℕ). let o : OrderState = record order { sealed = order.sealed + n; in_hand = n; pending = rest } in o) (sym whole);
    }

-- where none is sealed
pub due_empty : (order : OrderState) → (order.pending ≡ [] → ⊥) → order.sealed ≤ order.durable → (order.pending ≡ []) ⊎ (order.durable < order.sealed) → ⊥
due_empty order some durable due = elim due [
  | inl empty ↦ some empty
  | inr less ↦ absurd (omega (arith, less, durable))
]

pub some_there : (commands : List Command) → (commands ≡ [] → ⊥) → 0 < length commands
some_there [] some = absurd (some refl)
some_there (command ∷ rest) some = omega arith
