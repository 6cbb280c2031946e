use Rattle.std.proofs.Common.{◌≡◌, ◌∙◌, ap, false, sym, subst, ℕ}
use Rattle.checkpoint.specs.Recovery.{IsRecovered}
use Rattle.device_image.specs.Keeper.{KeeperState}
use Rattle.device_image.specs.Keeps.{Keeps}
use Rattle.device_image.specs.Stands.{StandsFor}
use Rattle.disk_model.specs.Disk.{MayLeave}
use Rattle.script_runner.proofs.Lives.{finds_no_more}
use Rattle.script_runner.proofs.life.open.Goals as goal

-- an opened keeper whose blocks were read
pub returns-in-Ok-runs : goal.returns-in-Ok-runs
returns-in-Ok-runs g c =
    let disk = g.D.Disk in
    let old = c.in-Ok.keeper in
    let new = c.runs.new.keeper in
    let is = c.in-Ok.ensures.recovered in
    record {
      recovered = subst (λ (keeper : KeeperState g.row.D.Denot). IsRecovered keeper) (sym c.in-Ok-runs.ensures.ok)
          (record { works = is.works; phase = is.phase; used = is.used; turned = is.turned; lefts = is.lefts; base = is.base; remembers = record { takes = is.remembers.takes; noted = is.remembers.noted } });
      honest = λ honest. c.runs.ensures.honest.1 (c.in-Ok.ensures.honest.1 honest);
      layout = λ upgrades. ap (λ keeper. keeper.geometry.layout) c.in-Ok-runs.ensures.ok ∙ c.in-Ok.ensures.layout upgrades;
      opened = λ honest.
          let opened = c.in-Ok.ensures.opened honest in
          let image = opened.image in
          let keeps = opened.keeps in
          let count : old.count ≡ new.count = sym (ap (λ keeper. keeper.count) c.in-Ok-runs.ensures.ok) in
          let stands = subst (λ (n : ℕ). (stands : StandsFor opened.content image n) × (c.args.upgrades ≡ false → new.geometry ≡ stands.header.geometry)) count
          (opened.stands, λ opens. ap (λ keeper. keeper.geometry) c.in-Ok-runs.ensures.ok ∙ opened.sizes opens) in
          let held = c.in-Ok-runs.ensures.held (c.in-Ok.ensures.honest.1 honest) image (c.keeper_laws.ensures.empty old image old.count keeps is.phase is.used) in
          record {
            image = image;
            content = opened.content;
            fixed = opened.fixed;
            stands = stands.0;
            sizes = stands.1;
            keeps = subst (λ (n : ℕ). Keeps new (disk.state new.disk) image n) (sym held.keeps.counted) held.keeps;
          };
      refused = λ honest. tt;
    }

pub returns-in-Err-runs : goal.returns-in-Err-runs
returns-in-Err-runs g c = record {
  recovered = tt;
  honest = λ honest. tt;
  layout = λ upgrades. tt;
  opened = λ honest. tt;
  refused = λ honest content image number may stands.
      let disk = g.D.Disk in
      let old = c.in-Ok.keeper in
      let there = c.in-Ok.ensures.honest.1 honest in
      let (found, fixed, crash) = c.in-Ok.ensures.left honest in
      finds_no_more (disk.state c.args.disk) (disk.state old.disk) found fixed crash (g.met.D.Disk.sound old.disk there) content image number
      (c.runs.ensures.left there content (subst (λ d. MayLeave (disk.state d) content) c.into_disk.ensures may)) stands;
}

pub returns-in-Err : goal.returns-in-Err
returns-in-Err g c = record {
  recovered = tt;
  honest = λ honest. tt;
  layout = λ upgrades. tt;
  opened = λ honest. tt;
  refused = λ honest.
      let disk = g.D.Disk in
      let (found, fixed, crash) = c.in-Err.ensures.left honest in
      finds_no_more (disk.state c.args.disk) (disk.state c.in-Err.disk) found fixed crash (g.met.D.Disk.sound c.in-Err.disk (c.in-Err.ensures.honest.1 honest));
}
