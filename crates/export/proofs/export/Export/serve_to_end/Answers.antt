use Rattle.export.proofs.RequestIsServed.{waited_as}
use Rattle.export.proofs.export.Export.serve_to_end.Goals as goal

pub returns-in-Err : goal.returns-in-Err
returns-in-Err g c = waited_as c.serve_at_once.new.pass c.wait_for.new.pass c.in-Err.number c.wait_for.result c.in-Err.ensures.waits c.wait_for.ensures
