use Rattle.std.proofs.Common.{◌≡◌, ◌+◌, ◌∙◌, ap, arith, subst}
use Rattle.export_model.specs.OneLog.{IsOneLog}
use Rattle.marks.specs.declared.view.View.{View}
use Rattle.marks.specs.Seats.{roster_of}
use Rattle.marks.specs.inner.Steps.{taking_keeper, taking_order}
use Rattle.marks.proofs.StepsKeepRule.{one_log}
use Rattle.marks.proofs.board.Board.close.Goals as goal

pub free-requires : goal.free-requires
free-requires g c k below = let counts = c.close_with-closed.ensures.counts.1 in absurd (omega (arith, counts, c.args.self.no_slots, below))

pub returns : goal.returns
returns g c = λ kept.
    let final = c.close_with-closed.ensures.values.2 in
    let roster : View = c.roster.inside.seat.me.0 in
    let order : View = c.order.inside.seat.me.0 in
    let keeper : View = c.keeper.inside.seat.me.0 in
    let v : View = c.take_keeper.new.seat.me.0 in
    let same : v ≡ taking_keeper (taking_order roster order) keeper = c.take_keeper.ensures.1 ∙ ap (λ (w : View). taking_keeper w keeper) c.take_order.ensures.1 in
    let log = one_log _ _ _ _ _ v final.0 final.1 c.take_keeper.ensures.0.unspent (ap (λ (w : View). w.raises_accepted) same) (ap (λ (w : View). w.raises_durable) same)
    (ap (λ (w : View). w.makes) same ∙ c.roster.invariant.right) kept in
    let opened : v.opening ≡ g.B.BoardName.opening = c.take_keeper.ensures.0.opened in
    let durable : keeper.durable ≡ g.B.BoardName.opening + log.0 = omega (arith, ap (λ (w : View). w.durable) same, log.1, opened) in
    rw (← c.order.view_is, ← c.keeper.view_is, ← c.roster.view_is) (
      log.0,
      durable,
      subst (λ (w : View). IsOneLog g.T.Trust.trusted g.T.Trust.mode g.T.Trust.image w.seen log.0 (roster_of w)) same log.2,
    )
