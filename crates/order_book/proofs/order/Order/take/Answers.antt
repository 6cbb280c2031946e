use Rattle.std.proofs.Common.{◌≡◌, ◌+◌, ◌<◌, ◌≤◌, ◌∙◌, ◌++◌, ◌∷◌, [], ℕ, List, ap, arith, length, refl, sym, subst, true}
use Rattle.std.specs.List.{sum}
use Rattle.image_model.specs.Command.{body_of}
use mathlib.Core.List.{IsPrefix}
use Rattle.image_model.specs.declared.command.Command.{Command}
use Rattle.image_model.specs.Change.{change_of}
use Rattle.image_model.specs.Dirty.{frames_suffice}
use Rattle.image_model.specs.Image.{Image, apply}
use Rattle.marks.specs.Client.{HasAsked}
use Rattle.marks.specs.Known.{OrderKnows}
use Rattle.order_book.specs.Cached.{ShowsCommand, dirty_of, frames_of}
use Rattle.order_book.specs.Order.{OrderState, with_command}
use Rattle.order_book.specs.Shown.{ShowsImage}
use Rattle.order_book.specs.State.{state_of}
use Rattle.order_book.proofs.CommandsFitGroup.{frames_left, number_left, room_left}
use Rattle.order_book.proofs.OrderKeepsRest.{order_roomy, order_taken, taken_as}
use Rattle.order_book.proofs.order.Order.take.Goals as goal
use Rattle.shared_cache.specs.Cache.{CacheState}

pub returns-in_default : goal.returns-in_default
returns-in_default g c = record {
  number = tt;
  accepted = tt;
  view = tt;
  image = tt;
  blocks = ap (λ (o : OrderState). length o.cache.states) c.self.view_is;
  handed_back = refl;
  unchanged =
      ap (λ (l : List Command). let o : OrderState = record (state_of c.self.inside) { pending = l; bodies = c.reserve_both.new.backlog.bodies } in o) c.in_default.ensures.commands
      ∙ ap (λ (l : List ℕ). let o : OrderState = record (state_of c.self.inside) { bodies = l } in o) c.in_default.ensures.bodies
      ∙ c.self.view_is;
  known = tt;
  knew = tt;
  pass = tt;
  pass_unchanged = refl;
  memory = refl;
}

pub invariant_of-self : goal.invariant_of-self
invariant_of-self g c = order_roomy (state_of c.self.inside) _ _ _ _ _ _ c.self.inside.cache _ _ c.self.invariant c.in_default.ensures.commands c.in_default.ensures.bodies (λ i. c.self.inside.cache.blocks.dirty) c.in_default.ensures.kept

pub returns-in_default-apply : goal.returns-in_default-apply
returns-in_default-apply g c = record {
  number = tt;
  accepted = tt;
  view = tt;
  image = tt;
  blocks = c.apply.ensures.blocks ∙ ap (λ (o : OrderState). length o.cache.states) c.self.view_is;
  handed_back = refl;
  unchanged =
      ap (λ (l : List Command). let o : OrderState = record (state_of c.self.inside) { pending = l; bodies = c.reserve_both.new.backlog.bodies; cache = c.apply.new.cache; dirty = dirty_of c.apply.new.cache; frames = frames_of c.apply.new.cache } in o) c.in-Ok.ensures.commands
      ∙ ap (λ (l : List ℕ). let o : OrderState = record (state_of c.self.inside) { bodies = l; cache = c.apply.new.cache; dirty = dirty_of c.apply.new.cache; frames = frames_of c.apply.new.cache } in o) c.in-Ok.ensures.bodies
      ∙ ap (λ (cache : CacheState). let o : OrderState = record (state_of c.self.inside) { cache = cache; dirty = dirty_of cache; frames = frames_of cache } in o) c.in_default-apply.ensures.err
      ∙ c.self.view_is;
  known = tt;
  knew = tt;
  pass = tt;
  pass_unchanged = refl;
  memory = refl;
}

pub invariant_of-self-in_default-apply : goal.invariant_of-self-in_default-apply
invariant_of-self-in_default-apply g c = order_roomy (state_of c.self.inside) _ _ _ _ _ _ c.apply.new.cache _ _ c.self.invariant c.in-Ok.ensures.commands c.in-Ok.ensures.bodies (ap (λ (cache : CacheState). cache.blocks.dirty) c.in_default-apply.ensures.err) c.in-Ok.ensures.kept

pub apply-requires-clause-frames : goal.apply-requires-clause-frames
apply-requires-clause-frames g c =
    subst (λ (o : OrderState). frames_suffice o.frames o.dirty (o.mark + 1) (change_of c.args.command) ≡ true) (sym c.self.view_is) (frames_left c.args.self.now c.args.command c.requires.free)

pub apply-requires-clause-order : goal.apply-requires-clause-order
apply-requires-clause-order g c k d below = omega (arith, c.self.invariant.dirty k d below)

pub push-requires-clause-room : goal.push-requires-clause-room
push-requires-clause-room g c = c.in-Ok.ensures.backlog

pub push-requires-clause-fits : goal.push-requires-clause-fits
push-requires-clause-fits g c =
    let room = (subst (λ (o : OrderState). sum o.bodies + body_of c.args.command ≤ 67108864) (sym c.self.view_is) (room_left c.args.self.now c.args.command c.requires.free)) in
    omega (arith, room, ap sum c.in-Ok.ensures.bodies, c.body_bytes-body.ensures, ap body_of c.raise_accepted-number.ensures.same)

pub push-requires-2 : goal.push-requires-2
push-requires-2 g c = omega (arith, c.in-Ok.ensures.pending)

pub returns : goal.returns
returns g c = record {
  number = (c.raise_accepted-number.ensures.number ∙ ap (λ (n : ℕ). n + 1) c.self.invariant.shown) ∙ ap (λ (o : OrderState). o.mark + 1) c.self.view_is;
  accepted =
      taken_as (state_of c.self.inside) c.args.command _ _ _ _ _ c.apply.new.cache _ _ (c.raise_accepted-number.ensures.number ∙ ap (λ (n : ℕ). n + 1) c.self.invariant.shown) (ap (λ (s : OrderKnows). s.history) c.raise_accepted-number.ensures.order) (c.push-2.ensures.commands ∙ (λ i. c.in-Ok.ensures.commands i ++ c.raise_accepted-number.ensures.same i ∷ [])) (c.push.ensures ∙ ap (λ (l : List ℕ). l ++ c.body_bytes-body.result ∷ []) c.in-Ok.ensures.bodies ∙ ap (λ (n : ℕ). c.self.inside.backlog.bodies ++ n ∷ []) (c.body_bytes-body.ensures ∙ ap body_of c.raise_accepted-number.ensures.same)) (ap (λ (s : OrderKnows). s.base) c.raise_accepted-number.ensures.order) c.in-Ok-apply.ensures.after c.in-Ok-apply.ensures.dirty c.in-Ok-apply.ensures.kept
      ∙ ap (λ (o : OrderState). with_command o c.args.command) c.self.view_is;
  view = subst (λ (o : OrderState). ShowsCommand (change_of c.args.command) o.cache c.apply.new.cache) c.self.view_is c.in-Ok-apply.ensures.view;
  image = subst (λ (o : OrderState). (image : Image) → ShowsImage image o.cache → ShowsImage (apply (change_of c.args.command) image) c.apply.new.cache) c.self.view_is c.in-Ok-apply.ensures.image;
  blocks = c.apply.ensures.blocks ∙ ap (λ (o : OrderState). length o.cache.states) c.self.view_is;
  handed_back = tt;
  unchanged = tt;
  known = c.raise_accepted-number.ensures.known;
  knew = subst (λ (o : OrderState). IsPrefix c.args.pass.now.history o.history) c.self.view_is c.raise_accepted-number.ensures.seen;
  pass = c.raise_accepted-number.ensures.pass;
  pass_unchanged = tt;
  memory = tt;
}

pub invariant_of-self-2 : goal.invariant_of-self-2
invariant_of-self-2 g c =
    let below = subst (λ (o : OrderState). o.mark < 18446744073709551616) c.self.view_is c.self.invariant.numbers.mark in
    let next = subst (λ (o : OrderState). o.mark + 1 < 18446744073709551616) (sym c.self.view_is) (number_left c.args.self.now c.args.command c.requires.free below) in
    let room = (subst (λ (o : OrderState). sum o.bodies + body_of c.args.command ≤ 67108864) (sym c.self.view_is) (room_left c.args.self.now c.args.command c.requires.free)) in
    order_taken (state_of c.self.inside) c.args.command _ _ _ _ _ c.apply.new.cache _ _ (c.raise_accepted-number.ensures.number ∙ ap (λ (n : ℕ). n + 1) c.self.invariant.shown) (ap (λ (s : OrderKnows). s.history) c.raise_accepted-number.ensures.order) (c.push-2.ensures.commands ∙ (λ i. c.in-Ok.ensures.commands i ++ c.raise_accepted-number.ensures.same i ∷ [])) (c.push.ensures ∙ ap (λ (l : List ℕ). l ++ c.body_bytes-body.result ∷ []) c.in-Ok.ensures.bodies ∙ ap (λ (n : ℕ). c.self.inside.backlog.bodies ++ n ∷ []) (c.body_bytes-body.ensures ∙ ap body_of c.raise_accepted-number.ensures.same)) _ _ _ _ _ _ c.requires.command c.self.invariant room (omega (arith, next, c.raise_accepted-number.ensures.number, c.self.invariant.shown)) (ap (λ (s : OrderKnows). s.accepted) c.raise_accepted-number.ensures.order)
    (λ k d below. omega (arith, c.in-Ok-apply.ensures.order k d below, (c.raise_accepted-number.ensures.number ∙ ap (λ (n : ℕ). n + 1) c.self.invariant.shown)))
    (omega (arith, c.in-Ok.ensures.pending, c.push-2.ensures.spare))

pub raise_accepted-number-requires-clause-asked : goal.raise_accepted-number-requires-clause-asked
raise_accepted-number-requires-clause-asked g c = λ kept.
    subst (λ (o : OrderState). HasAsked g.T.Trust.trusted g.T.Trust.image o.history (change_of c.args.command) c.args.pass.now.client) (sym c.self.view_is) (c.requires.asked kept)
