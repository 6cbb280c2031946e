use Rattle.std.proofs.Common.{◌≡◌, ◌⊎◌, ◌<◌, ◌+◌, ◌∙◌, ℕ, [], ap, subst, sym}
use Rattle.std.proofs.lemmas.Bool.{true≢false}
use Rattle.image_model.specs.Bodies.{body_limit}
use Rattle.journal_format.specs.Group.{Numbered}
use Rattle.order_book.specs.Order.{IsInHand, IsOrder, OrderState, Seals}
use Rattle.order_book.specs.Pending.{Waiting}
use Rattle.order_book.specs.State.{state_of}
use Rattle.order_book.specs.inner.Pending.{IsLongest}
use Rattle.order_book.proofs.GroupThatWasSealed.{due_empty, in_hand, order_sealed, seals, some_there}
use Rattle.order_book.proofs.order.Order.seal.Goals as goal

pub invariant_of-self : goal.invariant_of-self
invariant_of-self g c =
    subst (λ (p : Waiting). let o : OrderState = record (state_of c.self.inside) { pending = p.commands } in IsOrder o p.spare g.B.BoardName.opening c.self.inside.seat.accepted) (sym c.in_default.ensures.err) c.self.invariant

pub returns-in_default-clause-err : goal.returns-in_default-clause-err
returns-in_default-clause-err g c =
    ap (λ (p : Waiting). let o : OrderState = record (state_of c.self.inside) { pending = p.commands } in o) c.in_default.ensures.err ∙ c.self.view_is

pub returns-in_default-clause-none : goal.returns-in_default-clause-none
returns-in_default-clause-none g c =
    let none = subst (λ (o : OrderState). (o.pending ≡ []) ⊎ (o.durable < o.sealed) → ⊥) c.self.view_is
    (due_empty (state_of c.self.inside) (λ none. true≢false (sym (c.is_empty.ensures.1 none) ∙ c.if-is_empty.false)) c.if-self.false) in
    (λ e. cc, λ due. absurd (none due))

pub returns-clause-none : goal.returns-clause-none
returns-clause-none g c =
    let none = subst (λ (o : OrderState). (o.pending ≡ []) ⊎ (o.durable < o.sealed) → ⊥) c.self.view_is
    (due_empty (state_of c.self.inside) (λ none. true≢false (sym (c.is_empty.ensures.1 none) ∙ c.if-is_empty.false)) c.if-self.false) in
    (λ e. cc, λ due. absurd (none due))

pub invariant_of-self-2 : goal.invariant_of-self-2
invariant_of-self-2 g c =
    order_sealed (state_of c.self.inside) c.longest-count.result _ c.take.new.self.spare _ _ c.take.new.self.commands c.self.invariant (subst (λ (limit : ℕ). IsLongest limit c.self.inside.pending.commands c.longest-count.result) (c.body_limit.ensures ∙ ap (λ (o : OrderState). body_limit o.area) (sym c.self.view_is)) c.longest-count.ensures.longest) c.in-Ok.ensures.rest c.in-Ok.ensures.spare

pub returns-clause-in_hand : goal.returns-clause-in_hand
returns-clause-in_hand g c =
    subst (λ (group : Numbered). let o : OrderState = record (state_of c.self.inside) { sealed = c.self.inside.sealed + c.longest-count.result; in_hand = c.longest-count.result; pending = c.take.new.self.commands } in IsInHand o group)
    (sym c.new.ensures)
    (in_hand (state_of c.self.inside) c.longest-count.result _ c.take.new.self.spare _ _ c.take.new.self.commands c.self.invariant (subst (λ (limit : ℕ). IsLongest limit c.self.inside.pending.commands c.longest-count.result) (c.body_limit.ensures ∙ ap (λ (o : OrderState). body_limit o.area) (sym c.self.view_is)) c.longest-count.ensures.longest) c.in-Ok.ensures.rest c.in-Ok.commands.items c.in-Ok.ensures.taken)

pub returns-clause-group : goal.returns-clause-group
returns-clause-group g c =
    let new : OrderState = record (state_of c.self.inside) { sealed = c.self.inside.sealed + c.longest-count.result; in_hand = c.longest-count.result; pending = c.take.new.self.commands } in
    subst (λ (o : OrderState). Seals o new c.new.result) c.self.view_is
    (subst (λ (group : Numbered). Seals (state_of c.self.inside) new group) (sym c.new.ensures)
    (seals (state_of c.self.inside) c.longest-count.result _ c.take.new.self.spare _ _ c.take.new.self.commands c.self.invariant (subst (λ (limit : ℕ). IsLongest limit c.self.inside.pending.commands c.longest-count.result) (c.body_limit.ensures ∙ ap (λ (o : OrderState). body_limit o.area) (sym c.self.view_is)) c.longest-count.ensures.longest) c.in-Ok.ensures.rest c.in-Ok.commands.items c.in-Ok.ensures.taken (c.longest-count.ensures.first (some_there c.self.inside.pending.commands (λ none. true≢false (sym (c.is_empty.ensures.1 none) ∙ c.if-is_empty.false))))))

pub longest-count-requires-clause-small : goal.longest-count-requires-clause-small
longest-count-requires-clause-small g c = c.self.invariant.small

pub take-requires : goal.take-requires
take-requires g c = c.longest-count.ensures.longest.within
