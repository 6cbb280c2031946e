use Rattle.std.proofs.Common.{◌∙◌, arith, ap}
use Rattle.atomic_table.specs.Table.{Me}
use Rattle.marks.specs.declared.said.Said.{Said}
use Rattle.marks.specs.declared.view.View.{View}
use Rattle.marks.proofs.StepsKeepRule.{gives_keeper, gives_order}
use Rattle.marks.proofs.blank.BlankBoard.named.Goals as goal

pub split_seat-order-requires : goal.split_seat-order-requires
split_seat-order-requires g c =
    (c.self.invariant.2, omega (arith, c.self.invariant.0), gives_order _ _ _ _ _ _ (ap (λ (me : Me Said View). me.0.raises_accepted) c.self.invariant.3))

pub split_seat-keeper-requires : goal.split_seat-keeper-requires
split_seat-keeper-requires g c = (
  c.split_seat-order.ensures.0 ∙ c.self.invariant.2,
  omega (arith, c.self.invariant.0),
  gives_keeper _ _ _ _ _ _ (ap (λ (me : Me Said View). me.0.raises_durable) c.split_seat-order.ensures.2 ∙ ap (λ (me : Me Said View). me.0.raises_durable) c.self.invariant.3),
)
