use Rattle.std.proofs.Common.{◌∙◌, ◌<◌, ◌≤◌, subst, sym}
use Rattle.std.specs.List.{sum}
use Rattle.order_book.specs.Order.{OrderState}
use Rattle.export.proofs.PendingIsBounded.{with_bounded}
use Rattle.export.proofs.ClientAfterServing.{comes_with}
use Rattle.export.proofs.AnswersFitRequests.{with_fits, writes}
use Rattle.export.proofs.RequestIsServed.{no_room_as, shown_as}
use Rattle.export.proofs.PassAfterServing.{served_with}
use Rattle.shared_store.specs.Orders.{Trusting}
use Rattle.shared_store.specs.laws.Trust.{trusting}
use Rattle.export.proofs.commit_queue.CommitQueue.serve_with.Goals as goal

pub returns-clause-served : goal.returns-clause-served
returns-clause-served g c =
    let (given, given_is, by) = c.serve_with-served.ensures.serves in
    let opening = g.B.BoardName.opening in let image = g.B.ImageName.image in let vouches = g.B.ImageName.vouches in let trusted = g.B.ImageName.trusted in
    let request = c.args.request in let terms = c.args.terms in let old = c.args.self.now.order in let order = c.serve_with-served.new.self in let mid = c.serve_with-served.new.pass in let served = c.serve_with-served.result in
    let call = c.serve_with-served.ensures in let keeper = c.args.keeper.now.keeper in let next = c.serve_with-served.new.keeper.keeper in
    shown_as c.args.pass.now c.requires.may mid c.show.new.pass old.mark order.mark order.history served
    (served_with opening image (Trusting opening image vouches trusted) (λ P Q step is. trusting opening image vouches trusted step is) request terms.mode c.args.pass.now mid terms.geometry old order served call.pass call.over
    g.D.Disk.state g.D.Disk.faults g.D.Disk.honest keeper next given (λ passes. writes request terms.geometry terms.flags (sym given_is ∙ passes)) by)
    (comes_with request terms.geometry terms.mode old order served g.D.Disk.state g.D.Disk.faults g.D.Disk.honest keeper next given by) call.client
    (with_fits request terms.geometry terms.flags terms.mode old order served g.D.Disk.state g.D.Disk.faults g.D.Disk.honest keeper next given (sym given_is) by) call.tells c.show.ensures.pass

pub returns-then-exceeds_loss-clause-served : goal.returns-then-exceeds_loss-clause-served
returns-then-exceeds_loss-clause-served g c = no_room_as

pub returns-clause-bounded : goal.returns-clause-bounded
returns-clause-bounded g c =
    let (given, given_is, by) = c.serve_with-served.ensures.serves in
    let request = c.args.request in let terms = c.args.terms in let queue = c.args.self.now in
    subst (λ (o : OrderState). queue.order.mark < o.mark → sum o.bodies ≤ queue.most_pending) (sym c.show.ensures.order)
    (with_bounded request terms.geometry terms.mode queue.order c.serve_with-served.new.self c.serve_with-served.result queue.most_pending (c.exceeds_loss.ensures.bounded c.if-exceeds_loss.false)
    g.D.Disk.state g.D.Disk.faults g.D.Disk.honest c.args.keeper.now.keeper c.serve_with-served.new.keeper.keeper given (λ passes. writes request terms.geometry terms.flags (sym given_is ∙ passes)) by)
