use Rattle.std.proofs.lemmas.Result.{IfOk-weaker}
use Rattle.negotiation.specs.inner.Session.{Step, IsData, Settles}
use Rattle.negotiation.proofs.Sessions.{closed}
use Rattle.negotiation.proofs.stage.close.Goals as goal

pub returns-clause-takes : goal.returns-clause-takes
returns-clause-takes c =
    IfOk-weaker c.settle.result (Settles c.args.option c.in_ok-answer.answer c.args.out.now.items c.settle.new.out.items)
    (Step c.args.agreed c.args.offer.now (IsData c.args.option c.args.bytes.now) c.args.out.now.items c.settle.new.out.items)
    (closed c.args.agreed c.args.offer.now c.args.option c.ranges.option.fits c.args.out.now.items c.settle.new.out.items c.args.bytes.now c.in_ok-answer.answer c.requires c.in_ok-answer.ensures.answered)
    c.settle.ensures.settles
