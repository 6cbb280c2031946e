use Rattle.std.proofs.Common.{◌<◌, ◌≤◌, refl, subst, sym}
use Rattle.std.specs.List.{sum}
use Rattle.order_book.specs.Order.{OrderState}
use Rattle.export.proofs.PendingIsBounded.{here_bounded}
use Rattle.export.proofs.ClientAfterServing.{comes_here}
use Rattle.export.proofs.AnswersFitRequests.{here_fits, writes}
use Rattle.export.proofs.RequestIsServed.{no_room_as, shown_as}
use Rattle.export.proofs.PassAfterServing.{served_for}
use Rattle.shared_store.specs.Orders.{Trusting}
use Rattle.shared_store.specs.laws.Trust.{trusting}
use Rattle.export.proofs.commit_queue.CommitQueue.serve.Goals as goal
use Rattle.export_model.specs.Verdict.{verdict}

pub returns-clause-served : goal.returns-clause-served
returns-clause-served g c =
    let opening = g.B.BoardName.opening in let image = g.B.ImageName.image in let vouches = g.B.ImageName.vouches in let trusted = g.B.ImageName.trusted in
    let request = c.args.request in let terms = c.args.terms in let old = c.args.self.now.order in let order = c.serve.new.self in let mid = c.serve.new.pass in let served = c.in_ok-served.served in
    let call = c.in_ok-served.ensures in let given = verdict request.head terms.geometry terms.flags in
    shown_as c.args.pass.now c.requires mid c.show.new.pass old.mark order.mark order.history served
    (served_for opening image (Trusting opening image vouches trusted) (λ P Q step is. trusting opening image vouches trusted step is) request terms.mode c.args.pass.now mid terms.geometry old order served call.pass call.over
    given (writes request terms.geometry terms.flags) call.serves)
    (comes_here request terms.geometry terms.mode old order served given call.serves) call.client (here_fits request terms.geometry terms.flags terms.mode old order served given refl call.serves) call.tells c.show.ensures.pass

pub returns-then-exceeds_loss-clause-served : goal.returns-then-exceeds_loss-clause-served
returns-then-exceeds_loss-clause-served g c = no_room_as

pub returns-clause-bounded : goal.returns-clause-bounded
returns-clause-bounded g c =
    let request = c.args.request in let terms = c.args.terms in let queue = c.args.self.now in
    subst (λ (o : OrderState). queue.order.mark < o.mark → sum o.bodies ≤ queue.most_pending) (sym c.show.ensures.order)
    (here_bounded request terms.geometry terms.mode queue.order c.serve.new.self c.in_ok-served.served queue.most_pending (c.exceeds_loss.ensures.bounded c.if-exceeds_loss.false)
    (verdict request.head terms.geometry terms.flags) (writes request terms.geometry terms.flags) c.in_ok-served.ensures.serves)
