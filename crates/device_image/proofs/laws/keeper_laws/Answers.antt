use Rattle.device_image.specs.laws.AfterCall.{held_as, held_empty}
use Rattle.device_image.specs.laws.Kept.{kept_content, kept_size}
use Rattle.device_image.proofs.laws.keeper_laws.Goals as goal

pub returns : goal.returns
returns g c = record {
  size = λ keeper image number keeps. kept_size keeper (g.D.Disk.state keeper.disk) image number keeps;
  left = λ keeper image number content keeps left. kept_content keeper (g.D.Disk.state keeper.disk) image number keeps content left;
  held = λ keeper image number keeps. held_as keeper (g.D.Disk.state keeper.disk) image number keeps;
  empty = λ keeper image number keeps one none. held_empty keeper (g.D.Disk.state keeper.disk) image number keeps one none;
}
