use Rattle.std.proofs.Common.{ℕ, Ok, Err, refl, sym, ◌∙◌, ap, subst, arith}
use Rattle.disk_model.specs.Disk.{LeavesOnly}
use Rattle.disk_model.specs.laws.Moments.{goes_on}
use Rattle.device_image.specs.Keeps.{Keeps}
use Rattle.device_image.specs.Stands.{StandsFor}
use Rattle.checkpoint.specs.Opening.{IsFixedOrNot}
use Rattle.checkpoint.specs.Upgrade.{HasEitherLayout, IsUpgradeRefused}
use Rattle.checkpoint.specs.declared.fault.KeeperFault.TheVariants.{AreaSmall, NumbersFull}
use Rattle.checkpoint.proofs.OpeningFindsHeader.{changes}
use Rattle.checkpoint.proofs.UpgradeKeepsImage.{device_left, full_areas, layout_passes, numbers_not_device, opening_passes, refused_layout, refused_still, refused_upgrade, small_areas, small_not_device}
use Rattle.checkpoint.proofs.keeper.Keeper.upgrade.Goals as goal

pub returns-in-Ok-change_layout-clause-steps : goal.returns-in-Ok-change_layout-clause-steps
returns-in-Ok-change_layout-clause-steps g c =
    let opened = c.in-Ok.ensures in
    let call = c.in-Ok-change_layout.ensures in
    let keeper = c.in-Ok.keeper in
    let new = c.change_layout.new.self in
    record {
      opened = Ok keeper;
      recovered = opened.recovered;
      counted = opened.faults;
      found = λ honest.
          let trusted = opened.honest.1 honest in
          let found = opened.found honest in
          let image = found.1.outcome.0 in
          let kept = call.kept trusted image keeper.count found.1.outcome.2 in (
            found.0,
            found.1,
            record {
              fixed = found.1.fixed;
              outcome = (
                image,
                subst (λ (n : ℕ). StandsFor found.0 image n) (sym kept.counted) found.1.outcome.1,
                subst (λ (n : ℕ). Keeps new (g.D.Disk.state new.disk) image n) (sym kept.counted) kept,
                call.ok.base,
              );
              crash = changes (g.D.Disk.state c.args.disk) g.D.Disk.state found.0 keeper (Ok new) image keeper.count found.1.outcome.1 found.1.crash (call.any_moment trusted image keeper.count found.1.outcome.2);
            },
          );
      at_rest = opened.at_rest;
      changed = (
        λ two. ap Ok (call.idle two).0,
        λ one few. let no = call.small.1 (one, few) in cc,
        λ one enough last. let no = call.full.1 (one, enough, last) in cc,
        λ one enough some. call.changed one,
      );
      headers = λ honest.
          let found = opened.found honest in
          call.header (opened.honest.1 honest) found.1.outcome.0 keeper.count found.1.outcome.2;
    }

pub returns-in-Ok-change_layout-clause-same : goal.returns-in-Ok-change_layout-clause-same
returns-in-Ok-change_layout-clause-same g c honest synced image number stands =
    let opened = c.in-Ok.ensures in
    let call = c.in-Ok-change_layout.ensures in
    let kept = call.kept (opened.honest.1 honest) image number (opened.same honest synced image number stands).0 in
    (kept, call.ok.base ∙ kept.counted)

pub returns-in-Ok-change_layout-clause-any_moment : goal.returns-in-Ok-change_layout-clause-any_moment
returns-in-Ok-change_layout-clause-any_moment g c honest synced image number stands =
    let opened = c.in-Ok.ensures in
    goes_on (opened.any_moment honest synced image number stands)
    (c.in-Ok-change_layout.ensures.any_moment (opened.honest.1 honest) image number (opened.same honest synced image number stands).0) (λ content stood. stood)

pub returns-in-Err-change_layout-clause-steps : goal.returns-in-Err-change_layout-clause-steps
returns-in-Err-change_layout-clause-steps g c =
    let opened = c.in-Ok.ensures in
    let call = c.in-Err-change_layout.ensures in
    let keeper = c.in-Ok.keeper in
    let new = c.change_layout.new.self in
    let fault = c.in-Err-change_layout.fault in
    let before = g.D.Disk.state c.args.disk in
    record {
      opened = Ok keeper;
      recovered = opened.recovered;
      counted = opened.faults;
      found = λ honest.
          let trusted = opened.honest.1 honest in
          let found = opened.found honest in
          let image = found.1.outcome.0 in
          let stands = found.1.outcome.1 in
          let keeps = found.1.outcome.2 in (
            found.0,
            found.1,
            record {
              fixed = found.1.fixed;
              outcome = subst (λ (disk : g.row.D.Denot). IsUpgradeRefused fault found.0 (g.D.Disk.state disk).seen) (sym c.into_disk.ensures)
                  (refused_layout fault found.0 (g.D.Disk.state new.disk).seen call.only
                  (λ is. full_areas g.D.Disk.state fault keeper new image found.0 is call.unchanged (call.full.0 (ap Err is)) stands keeps)
                  (λ is. small_areas g.D.Disk.state fault keeper new image found.0 is call.unchanged (call.small.0 (ap Err is)) opened.recovered stands keeps));
              crash = subst (λ (disk : g.row.D.Denot). IsFixedOrNot before g.D.Disk.state (Err (fault, disk)) found.0) (sym c.into_disk.ensures)
                  (changes before g.D.Disk.state found.0 keeper (Err (fault, new.disk)) image keeper.count stands found.1.crash (call.any_moment trusted image keeper.count keeps));
            },
          );
      at_rest = opened.at_rest;
      changed = (
        λ two. let no = (call.idle two).1 in cc,
        λ one few. refused_still fault AreaSmall keeper new c.into_disk.result (call.small.1 (one, few)) small_not_device call.unchanged c.into_disk.ensures,
        λ one enough last. refused_still fault NumbersFull keeper new c.into_disk.result (call.full.1 (one, enough, last)) numbers_not_device call.unchanged c.into_disk.ensures,
        λ one enough some. device_left fault call.only (λ is. some (call.full.0 (ap Err is)).2) (λ is. let few = (call.small.0 (ap Err is)).1 in absurd (omega (arith, few, enough))),
      );
      headers = λ honest.
          let found = opened.found honest in
          subst (λ (disk : g.row.D.Denot). LeavesOnly (g.D.Disk.state keeper.disk) (g.D.Disk.state disk) (HasEitherLayout keeper)) (sym c.into_disk.ensures)
          (call.header (opened.honest.1 honest) found.1.outcome.0 keeper.count found.1.outcome.2);
    }

pub returns-in-Err-change_layout-clause-passing : goal.returns-in-Err-change_layout-clause-passing
returns-in-Err-change_layout-clause-passing g c honest synced image number stands = layout_passes c.in-Err-change_layout.fault c.in-Err-change_layout.ensures.only

pub returns-in-Err-change_layout-clause-any_moment : goal.returns-in-Err-change_layout-clause-any_moment
returns-in-Err-change_layout-clause-any_moment g c honest synced image number stands =
    let opened = c.in-Ok.ensures in
    subst (λ (disk : g.row.D.Denot). LeavesOnly (g.D.Disk.state c.args.disk) (g.D.Disk.state disk) (λ content. StandsFor content image number)) (sym c.into_disk.ensures)
    (goes_on (opened.any_moment honest synced image number stands)
    (c.in-Err-change_layout.ensures.any_moment (opened.honest.1 honest) image number (opened.same honest synced image number stands).0) (λ content stood. stood))

pub returns-in-Err-clause-steps : goal.returns-in-Err-clause-steps
returns-in-Err-clause-steps g c = record {
  opened = Err c.in-Err.refused;
  recovered = tt;
  counted = c.in-Err.ensures.faults;
  found = λ honest.
      let found = c.in-Err.ensures.found honest in (
        found.0,
        found.1,
        record {
          fixed = found.1.fixed;
          outcome = refused_upgrade c.in-Err.refused.0 found.0 (g.D.Disk.state c.in-Err.refused.1).seen found.1.outcome;
          crash = found.1.crash;
        },
      );
  at_rest = c.in-Err.ensures.at_rest;
  changed = refl;
  headers = λ honest. tt;
}

pub returns-in-Err-clause-passing : goal.returns-in-Err-clause-passing
returns-in-Err-clause-passing g c honest synced image number stands = opening_passes c.in-Err.refused.0 (c.in-Err.ensures.passing honest synced image number stands)
