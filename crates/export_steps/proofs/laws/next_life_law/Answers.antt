use Rattle.std.proofs.Common.{◌+◌, true, []}
use Rattle.export_steps.specs.Life.{KeepsCovered}
use Rattle.export_model.specs.World.{image_after}
use Rattle.export_steps.proofs.laws.next_life_law.Goals as goal

pub returns : goal.returns
returns g c = λ world order keeper connections content found number honest of left stands.
    let disk = g.D.Disk in
    let law = c.leads_law.ensures in
    let kept : KeepsCovered world.stage.order world content =
    (law.durable world world true [] order keeper connections keeper.disk of.reached (law.none world true order keeper connections of) honest).at_end content left in
    let image = image_after world.stage.order kept.count world.stage.setting.image in
    let last = world.stage.setting.opening + kept.count in
    record {
      count = kept.count;
      within = kept.within;
      covers = kept.covers;
      image = c.stands_laws.ensures.one_image content found image number last stands kept.stands;
      last = c.stands_laws.ensures.one_number content found image number last stands kept.stands;
    }
