use Rattle.negotiation.specs.Answered.{Offer}
use Rattle.std.proofs.Common.{◌≡◌, ℕ, ◌-◌, length, arith}
use Rattle.std.proofs.lemmas.Result.{IfOk-weaker}
use Rattle.negotiation.specs.inner.Session.{IsLongPart, Step, Settles}
use Rattle.negotiation.specs.declared.stage.Talk.{Talk}
use Rattle.negotiation.proofs.Sessions.{discarded}
use Rattle.negotiation.proofs.stage.discard.Goals as goal

pub returns-clause-takes : goal.returns-clause-takes
returns-clause-takes c =
    let left = c.args.missing - length c.args.front.now in
    let none : left ≡ 0 = omega arith in
    IfOk-weaker c.settle.result (Settles c.args.option c.in_ok-answer.answer c.args.out.now.items c.settle.new.out.items)
    (λ (talk : Talk). (offer : Offer) → Step c.args.agreed offer (IsLongPart c.args.option left) c.args.out.now.items c.settle.new.out.items talk)
    (λ talk settles offer. discarded c.args.agreed offer c.args.option c.ranges.option.fits c.args.out.now.items c.settle.new.out.items c.in_ok-answer.answer left none c.in_ok-answer.ensures.value talk settles)
    c.settle.ensures.settles
