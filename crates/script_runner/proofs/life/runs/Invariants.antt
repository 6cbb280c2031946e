use Rattle.std.proofs.Common.{◌≡◌, []}
use Rattle.std.specs.Prelude.{◌↔◌}
use Rattle.device_image.specs.Holds.{Holds}
use Rattle.image_model.specs.Image.{Image}
use Rattle.script_runner.specs.inner.Life.{LeavesNoMore}
use Rattle.script_runner.proofs.life.runs.Given as goal

-- the keeper goes on holding what it held, and its device leaves no more than it did
abbrev pub invariant-loop-block : goal.invariant-loop-block
invariant-loop-block g l = record {
  same : l.keeper ≡ record l.fn.keeper { disk = l.keeper.disk };
  honest : g.D.Disk.honest l.keeper.disk ↔ g.D.Disk.honest l.fn.keeper.disk;
  held : g.D.Disk.honest l.fn.keeper.disk → (image : Image) → Holds l.fn.keeper (g.D.Disk.state l.fn.keeper.disk) image [] []
      → Holds l.keeper (g.D.Disk.state l.keeper.disk) image [] [];
  left : g.D.Disk.honest l.fn.keeper.disk → LeavesNoMore (g.D.Disk.state l.fn.keeper.disk) (g.D.Disk.state l.keeper.disk);
}
