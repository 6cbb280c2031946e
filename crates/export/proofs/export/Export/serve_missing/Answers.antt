use Rattle.export.proofs.RequestIsServed.{unserved_as}
use Rattle.export.proofs.export.Export.serve_missing.Goals as goal

pub returns-in-None : goal.returns-in-None
returns-in-None g c = unserved_as c.args.pass.now c.requires.may c.serve_unlocked.new.pass c.refuse.result c.refuse.ensures c.in-None.ensures.unchanged
