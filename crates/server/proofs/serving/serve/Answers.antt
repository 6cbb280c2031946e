use Rattle.std.proofs.lemmas.Grind.{merely}
use Rattle.std.proofs.Common.{List, [], ◌+◌, length, subst, sym}
use Rattle.export.specs.Left.{LeavesHistory}
use Rattle.export.specs.Trusted.{IsTrusted, image_found}
use Rattle.server.proofs.DeviceAfterServing.{unlogged}
use Rattle.server.proofs.serving.serve.Goals as goal

pub returns-in-Err : goal.returns-in-Err
returns-in-Err g c =
    let keeper = c.args.device.keeper in let image = image_found g.D.Disk.state keeper in let start = g.D.Disk.state keeper.disk in
    let left : IsTrusted g.D.Disk.state g.D.Disk.honest keeper image → LeavesHistory start (g.D.Disk.state c.into_disk.result) keeper.count image [] keeper.count = λ sure.
    subst (λ (d : g.row.D.Denot). LeavesHistory start (g.D.Disk.state d) keeper.count image [] keeper.count) (sym c.into_disk.ensures)
    (c.opened_device_law.ensures.history keeper image sure c.args.device.recovered) in record {
      left = λ sure. ([], left sure);
      stored = tt;
      log = ([], record { made = 0; calls = [] }, unlogged keeper.geometry _ c.args.options.mode _ start (g.D.Disk.state c.into_disk.result) keeper.count image left, merely tt, tt);
      honest = λ sure. subst g.D.Disk.honest (sym c.into_disk.ensures) sure.sure;
      faults = tt;
    }

pub returns-in-Ok-clause-log : goal.returns-in-Ok-clause-log
returns-in-Ok-clause-log g c = c.serve_logged.ensures.log tt
