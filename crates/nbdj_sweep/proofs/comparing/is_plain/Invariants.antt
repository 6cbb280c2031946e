use Rattle.std.proofs.Common.{◌≡◌, ◌<◌, ℕ, []}
use Rattle.std.specs.Prelude.{◌↔◌}
use Rattle.device_image.specs.Holds.{Holds}
use Rattle.image_model.specs.Image.{Image}
use Rattle.nbdj_sweep.specs.Plain.{IsPlainBlock}
use Rattle.nbdj_sweep.proofs.comparing.is_plain.Given as goal

-- the keeper goes on holding what it held, and the blocks before this one are the same
abbrev pub invariant-loop-block : goal.invariant-loop-block
invariant-loop-block g l = record {
  same : l.keeper ≡ record l.fn.keeper { disk = l.keeper.disk };
  extent : g.D.Disk.extent l.keeper.disk ≡ g.D.Disk.extent l.fn.keeper.disk;
  honest : g.D.Disk.honest l.keeper.disk ↔ g.D.Disk.honest l.fn.keeper.disk;
  held : g.D.Disk.honest l.fn.keeper.disk → (image : Image) → Holds l.fn.keeper (g.D.Disk.state l.fn.keeper.disk) image [] []
      → Holds l.keeper (g.D.Disk.state l.keeper.disk) image [] [];
  before : g.D.Disk.honest l.fn.keeper.disk → (image : Image) → Holds l.fn.keeper (g.D.Disk.state l.fn.keeper.disk) image [] []
      → (block : ℕ) → block < l.block → IsPlainBlock l.plain image block;
}
