use Rattle.export.proofs.CrashAfterOpening.{just_opened, no_commands}
use Rattle.export.proofs.laws.opened_device_law.Goals as goal

pub returns-clause-left : goal.returns-clause-left
returns-clause-left g c = λ keeper image trusted recovered.
    just_opened g.D.Disk.state g.D.Disk.honest (g.D.Disk.extent keeper.disk) keeper image (c.keeper_laws.ensures.left keeper) (g.met.D.Disk.sound keeper.disk) recovered trusted

pub returns-clause-history : goal.returns-clause-history
returns-clause-history g c = λ keeper image trusted recovered.
    no_commands (g.D.Disk.extent keeper.disk) (g.D.Disk.state keeper.disk) (g.D.Disk.state keeper.disk) keeper.count image
    (just_opened g.D.Disk.state g.D.Disk.honest (g.D.Disk.extent keeper.disk) keeper image (c.keeper_laws.ensures.left keeper) (g.met.D.Disk.sound keeper.disk) recovered trusted)
    (g.met.D.Disk.sound keeper.disk trusted.sure)
