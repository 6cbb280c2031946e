use Rattle.std.proofs.Common.{◌∙◌}
use Rattle.export.proofs.RequestIsServed.{equal_as, may_again}
use Rattle.request_core.specs.declared.serving.Served.TheVariants as served
use Rattle.export.proofs.export.Export.serve_at_once.Goals as goal

pub serve_once-requires : goal.serve_once-requires
serve_once-requires g c = may_again c.args.pass.now c.requires c.loop.request c.loop.pass c.loop.invariant.request c.loop.invariant.pass

pub returns-in-Ready-clause-answered : goal.returns-in-Ready-clause-answered
returns-in-Ready-clause-answered g c =
    let is = equal_as c.loop.request c.loop.pass c.serve_once.new.pass (served.Ready c.in-Ready.reply) c.loop.invariant.request c.loop.invariant.pass c.in-Ready.ensures in
    record { served = is.served; client = is.client; fits = is.fits; tells = is.tells }

pub returns-in-Wait-clause-waits : goal.returns-in-Wait-clause-waits
returns-in-Wait-clause-waits g c =
    equal_as c.loop.request c.loop.pass c.serve_once.new.pass (served.Wait c.in-Wait.number) c.loop.invariant.request c.loop.invariant.pass c.in-Wait.ensures

pub loop-preserved : goal.loop-preserved
loop-preserved g c =
    let is = c.in-NoRoom.ensures.served in record { iterates = (tt, tt); request = is.1 ∙ c.loop.invariant.request; pass = is.0 ∙ c.loop.invariant.pass }
