use Rattle.nbdj_pipe.proofs.Checkpoints.{copy_shown}
use Rattle.nbdj_pipe.proofs.export.Export.copy_some.Goals as goal

pub returns-clause-world : goal.returns-clause-world
returns-clause-world g c = λ world trusted of.
    let disk = g.D.Disk in
    copy_shown disk.state disk.faults disk.honest c.leads_law.ensures c.schedule_law.ensures.grows world trusted c.copy_some.new.order c.copy_some.new.keeper c.copy_some.new.connections c.args.self.now.keeper.disk c.copy_some.result
    of.reached (c.copy_some.ensures.world world trusted of)
