use Rattle.std.proofs.Common.{◌≡◌, ◌∙◌, ℕ, zero, suc, [], ◌∷◌, length, length-append, ap, arith, refl, sym}
use Rattle.image_model.specs.Layout.{area_size_of}
use Rattle.marks.specs.Known.{new_pass}
use Rattle.order_book.specs.Order.{OrderState, new_order}
use Rattle.export.proofs.Lists.{popped}
use Rattle.export.specs.Clients.{new_client_pass, new_client_passes}
use Rattle.export.proofs.export.open_parts.Goals as goal

pub new-requires-clause-fresh : goal.new-requires-clause-fresh
new-requires-clause-fresh g c =
    let (states, size, is) = c.in_ok-order.ensures.order in let area = area_size_of c.args.keeper.now.geometry.layout c.args.keeper.now.geometry.area in (
      states,
      c.args.frames,
      area,
      size ∙ c.requires.image,
      is ∙ ap (λ n. new_order states n c.args.frames area) (sym c.requires.opening ∙ c.requires.named),
    )

pub new-requires-clause-shows : goal.new-requires-clause-shows
new-requires-clause-shows g c = λ sure. c.in_ok-order.ensures.image g.B.ImageName.image (c.requires.held sure)

pub fresh_order-requires-clause-frames : goal.fresh_order-requires-clause-frames
fresh_order-requires-clause-frames g c = c.requires.frames

pub fresh_order-requires-clause-named : goal.fresh_order-requires-clause-named
fresh_order-requires-clause-named g c = sym c.requires.opening ∙ c.requires.named

pub fresh_order-requires-clause-seat : goal.fresh_order-requires-clause-seat
fresh_order-requires-clause-seat g c = c.in_ok-board.ensures.order ∙ ap (λ (n : ℕ). record { history = []; accepted = n; base = n }) c.requires.opening

pub returns-clause-seat : goal.returns-clause-seat
returns-clause-seat g c = c.in_ok-board.ensures.keeper ∙ ap (λ (n : ℕ). record { history = []; accepted = n; durable = n; base = n }) c.requires.opening

pub returns-clause-blocks : goal.returns-clause-blocks
returns-clause-blocks g c =
    let (states, size, is) = c.in_ok-order.ensures.order in
    ap (λ (o : OrderState). length o.cache.states) (c.new.ensures ∙ is) ∙ size

pub returns-clause-noted : goal.returns-clause-noted
returns-clause-noted g c =
    let (states, size, is) = c.in_ok-order.ensures.order in
    ap (λ (o : OrderState). o.base) (c.new.ensures ∙ is)

length_all : (opening count : ℕ) → length (new_client_passes opening count) ≡ count
length_all opening zero = refl
length_all opening (suc count) = omega (arith, length-append (new_client_passes opening count) (new_client_pass opening count ∷ []), length_all opening count)

pub returns-clause-passes : goal.returns-clause-passes
returns-clause-passes g c =
    let made = c.in_ok-passes.passes in let size = ap length c.in_ok-passes.ensures.passes in
    omega (arith, made.ok.0, size, length_all g.B.BoardName.opening c.args.workers)

pub returns-clause-known : goal.returns-clause-known
returns-clause-known g c = c.in_ok-passes.ensures.passes ∙ ap (λ (n : ℕ). new_client_passes n c.args.workers) (sym c.requires.named ∙ c.requires.opening)

pub returns-clause-last : goal.returns-clause-last
returns-clause-last g c =
    let last =
    (popped c.in_ok-board.field-0.passes.items c.pop.new.self.items c.in-Some.last (new_pass c.args.blank.opening) 1 0 c.in-Some.ensures.items c.in_ok-board.ensures.passes refl).1
    ∙ ap new_pass c.requires.opening in
    λ i. record { pass = last i; roster = c.in_ok-passes.ensures.roster i }
