use Rattle.std.proofs.Common.{◌≡◌, ◌∙◌, ap, List, ◌++◌, ◌∷◌, []}
use Rattle.export_model.specs.OneLog.{Call, RosterState}
use Rattle.marks.specs.Seats.{roster_of, calls_of}
use Rattle.marks.specs.declared.view.View.{View}
use Rattle.marks.specs.inner.Steps.{gathering}
use Rattle.marks.proofs.ClientsFitLog.{calls_more}
use Rattle.marks.proofs.board.Board.gather.Goals as goal

pub returns : goal.returns
returns g c =
    let roster : View = c.roster.inside.seat.me.0 in
    let pass : View = c.pass.inside.seat.me.0 in
    let same : roster_of c.take_client.new.roster.me.0 ≡ roster_of (gathering roster pass) = ap roster_of c.take_client.ensures.1 in
    let calls : roster_of (gathering roster pass) ≡ record { made = roster.made; calls = calls_of roster.gathered ++ record { by = pass.client.by; events = pass.client.mine } ∷ [] } =
    ap (λ (l : List Call). let state : RosterState = record { made = roster.made; calls = l } in state) (calls_more roster.gathered record { by = pass.client.by; events = pass.client.mine }) in
    rw (← c.roster.view_is, ← c.pass.view_is) (same ∙ calls)
