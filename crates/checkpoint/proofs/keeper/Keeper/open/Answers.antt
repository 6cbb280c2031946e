use Rattle.std.proofs.Common.{◌≡◌, ◌+◌, ◌<◌, ℕ, List, Ok, Err, sym, ◌∙◌, ap, subst}
use Rattle.disk_model.specs.Disk.{LeavesOnly}
use Rattle.disk_model.specs.laws.Contents.{leaves_seen}
use Rattle.disk_model.specs.laws.Moments.{goes_on, weakens}
use Rattle.device_image.specs.Keeper.{KeeperState}
use Rattle.device_image.specs.Keeps.{Keeps}
use Rattle.device_image.specs.Stands.{StandsFor}
use Rattle.checkpoint.specs.Opening.{IsAtRest, IsOpeningRefused, headers_for}
use Rattle.checkpoint.specs.declared.fault.KeeperFault.TheVariants.{DeviceFault, NumbersFull}
use Rattle.checkpoint.proofs.OpeningKeepsImage.{keeps_same, passes, stood}
use Rattle.checkpoint.proofs.OpeningFindsHeader.{CrashAndHeaders, empty_base, headers_left, headers_most, is_full, read_leaves, recovers, refused_opening, refused_recovery, rests, stood_content}
use Rattle.checkpoint.proofs.keeper.Keeper.open.Goals as goal

pub returns-in-Ok-recover-clause-found : goal.returns-in-Ok-recover-clause-found
returns-in-Ok-recover-clause-found g c honest =
    let read = c.in-Ok.ensures in
    let call = c.in-Ok-recover.ensures in
    let keeper = c.in-Ok.keeper in
    let trusted = read.honest.1 honest in
    let found = read.found honest in
    let kept = call.kept trusted found.0 keeper.count found.1 in
    let counted = kept.counted in
    let new = c.recover.new.self in
    let generation = call.generation ∙ headers_left keeper (g.D.Disk.state keeper.disk) found.0 keeper.count found.1 read.turned in
    let stands = subst (λ (n : ℕ). (stands : StandsFor (g.D.Disk.state keeper.disk).seen found.0 n) × (new.geometry ≡ stands.header.geometry) × (new.generation ≡ stands.header.generation + headers_for stands.lists)) (sym counted)
    (found.1.stands, call.sizes ∙ found.1.sizes, generation) in
    let leaves = recovers (g.D.Disk.state c.args.disk) g.D.Disk.state (g.D.Disk.state keeper.disk).seen keeper (Ok new) found.0 keeper.count found.1.stands _ found.1.sizes found.1.generation
    (headers_most keeper (g.D.Disk.state keeper.disk) found.0 keeper.count found.1 read.turned)
    (read.first honest) (call.any_moment trusted found.0 keeper.count found.1) (call.headers trusted found.0 keeper.count found.1) in (
      (g.D.Disk.state keeper.disk).seen,
      record {
        fixed = read.fixed honest;
        outcome = (
          found.0,
          stands.0,
          subst (λ (n : ℕ). Keeps new (g.D.Disk.state new.disk) found.0 n) (sym counted) kept,
          empty_base new (g.D.Disk.state new.disk) found.0 keeper.count kept call.ok.phase call.ok.used ∙ sym counted,
          stands.1,
          stands.2,
        );
        crash = leaves.0;
        headers = leaves.1;
      },
    )

pub returns-in-Ok-recover-clause-same : goal.returns-in-Ok-recover-clause-same
returns-in-Ok-recover-clause-same g c honest synced image number stands =
    let read = c.in-Ok.ensures in
    let call = c.in-Ok-recover.ensures in
    let keeper = c.in-Ok.keeper in
    let found = read.found honest in
    let keeps = keeps_same keeper (g.D.Disk.state keeper.disk) found.0 image keeper.count number found.1 (stood (g.D.Disk.state c.args.disk) (g.D.Disk.state keeper.disk) image number synced (read.fixed honest) stands) in
    let kept = call.kept (read.honest.1 honest) image number keeps in
    (kept, empty_base c.recover.new.self (g.D.Disk.state c.recover.new.self.disk) image number kept call.ok.phase call.ok.used)

pub returns-in-Ok-recover-clause-any_moment : goal.returns-in-Ok-recover-clause-any_moment
returns-in-Ok-recover-clause-any_moment g c honest synced image number stands =
    let read = c.in-Ok.ensures in
    let keeper = c.in-Ok.keeper in
    let found = read.found honest in
    let keeps = keeps_same keeper (g.D.Disk.state keeper.disk) found.0 image keeper.count number found.1 (stood (g.D.Disk.state c.args.disk) (g.D.Disk.state keeper.disk) image number synced (read.fixed honest) stands) in
    goes_on (weakens (read.any_moment honest) (stood_content (g.D.Disk.state c.args.disk) image number synced stands))
    (c.in-Ok-recover.ensures.any_moment (read.honest.1 honest) image number keeps) (λ content stood. stood)

pub returns-in-Ok-recover-clause-at_rest : goal.returns-in-Ok-recover-clause-at_rest
returns-in-Ok-recover-clause-at_rest g c honest synced rest =
    let read = c.in-Ok.ensures in
    let keeper = c.in-Ok.keeper in
    let before = g.D.Disk.state c.args.disk in
    let mid = g.D.Disk.state keeper.disk in
    let found = read.found honest in
    let still = rests keeper mid found.0 keeper.count found.1 (subst (λ (content : List ℕ). IsAtRest content) (sym (leaves_seen before mid.seen synced (read.fixed honest))) rest) in
    let same = c.in-Ok-recover.ensures.idle still.0 still.1 in
    subst (λ (k : KeeperState g.row.D.Denot). LeavesOnly before (g.D.Disk.state k.disk) (λ content. content ≡ before.seen)) (sym same.0)
    (weakens (read.any_moment honest) (λ content left. leaves_seen before content synced left))

numbers_not_device : NumbersFull ≡ DeviceFault → ⊥
numbers_not_device is = cc

pub returns-in-Err-recover-clause-found : goal.returns-in-Err-recover-clause-found
returns-in-Err-recover-clause-found g c honest =
    let read = c.in-Ok.ensures in
    let call = c.in-Err-recover.ensures in
    let keeper = c.in-Ok.keeper in
    let left = c.recover.new.self in
    let trusted = read.honest.1 honest in
    let found = read.found honest in
    let mid = g.D.Disk.state keeper.disk in
    let kept = call.kept_still trusted found.0 keeper.count found.1 in
    let leaves = subst (λ (disk : g.row.D.Denot). CrashAndHeaders (g.D.Disk.state c.args.disk) g.D.Disk.state (Err (c.in-Err-recover.fault, disk)) mid.seen) (sym c.into_disk.ensures)
    (recovers (g.D.Disk.state c.args.disk) g.D.Disk.state mid.seen keeper (Err (c.in-Err-recover.fault, left.disk)) found.0 keeper.count found.1.stands _ found.1.sizes found.1.generation
    (headers_most keeper mid found.0 keeper.count found.1 read.turned)
    (read.first honest) (call.any_moment trusted found.0 keeper.count found.1) (call.headers trusted found.0 keeper.count found.1)) in (
      mid.seen,
      record {
        fixed = read.fixed honest;
        outcome = subst (λ (disk : g.row.D.Denot). IsOpeningRefused c.in-Err-recover.fault mid.seen (g.D.Disk.state disk).seen) (sym c.into_disk.ensures)
            (refused_recovery c.in-Err-recover.fault mid.seen (g.D.Disk.state left.disk).seen call.only (λ is.
            let still = kept (λ device. numbers_not_device (sym is ∙ device)) in (
              (found.0, keeper.count, found.1.stands, still.stands),
              is_full left (g.D.Disk.state left.disk) found.0 keeper.count still (call.full (ap Err is)),
              λ rest. let at = rests left (g.D.Disk.state left.disk) found.0 keeper.count still rest in call.wanted (ap Err is) at.0 at.1,
              (found.0, keeper.count, found.1.stands, subst (λ (n : ℕ). 18446744073709551615 < n) (headers_left keeper mid found.0 keeper.count found.1 read.turned) (call.lacks (ap Err is))),
            )));
        crash = leaves.0;
        headers = leaves.1;
      },
    )

pub returns-in-Err-recover-clause-any_moment : goal.returns-in-Err-recover-clause-any_moment
returns-in-Err-recover-clause-any_moment g c honest synced image number stands =
    let read = c.in-Ok.ensures in
    let keeper = c.in-Ok.keeper in
    let found = read.found honest in
    let keeps = keeps_same keeper (g.D.Disk.state keeper.disk) found.0 image keeper.count number found.1 (stood (g.D.Disk.state c.args.disk) (g.D.Disk.state keeper.disk) image number synced (read.fixed honest) stands) in
    subst (λ (disk : g.row.D.Denot). LeavesOnly (g.D.Disk.state c.args.disk) (g.D.Disk.state disk) (λ content. StandsFor content image number)) (sym c.into_disk.ensures)
    (goes_on (weakens (read.any_moment honest) (stood_content (g.D.Disk.state c.args.disk) image number synced stands))
    (c.in-Err-recover.ensures.any_moment (read.honest.1 honest) image number keeps) (λ content stood. stood))

pub returns-in-Err-recover-clause-at_rest : goal.returns-in-Err-recover-clause-at_rest
returns-in-Err-recover-clause-at_rest g c honest synced rest =
    let read = c.in-Ok.ensures in
    let keeper = c.in-Ok.keeper in
    let before = g.D.Disk.state c.args.disk in
    let mid = g.D.Disk.state keeper.disk in
    let found = read.found honest in
    let still = rests keeper mid found.0 keeper.count found.1 (subst (λ (content : List ℕ). IsAtRest content) (sym (leaves_seen before mid.seen synced (read.fixed honest))) rest) in
    let same = c.in-Err-recover.ensures.idle still.0 still.1 in
    cc

pub returns-in-Err-clause-found : goal.returns-in-Err-clause-found
returns-in-Err-clause-found g c honest =
    let read = c.in-Err.ensures in
    let after = g.D.Disk.state c.in-Err.refused.1 in
    let leaves = read_leaves (g.D.Disk.state c.args.disk) g.D.Disk.state after.seen (Err c.in-Err.refused) (read.first honest) in (
      after.seen,
      record {
        fixed = read.fixed honest;
        outcome = refused_opening c.in-Err.refused.0 after.seen after.seen (read.found honest);
        crash = leaves.0;
        headers = leaves.1;
      },
    )

pub returns-in-Err-clause-passing : goal.returns-in-Err-clause-passing
returns-in-Err-clause-passing g c honest synced image number stands =
    let read = c.in-Err.ensures in
    let after = g.D.Disk.state c.in-Err.refused.1 in
    passes after.seen image number c.in-Err.refused.0 (read.found honest) (stood (g.D.Disk.state c.args.disk) after image number synced (read.fixed honest) stands)

pub returns-in-Err-clause-any_moment : goal.returns-in-Err-clause-any_moment
returns-in-Err-clause-any_moment g c honest synced image number stands =
    weakens (c.in-Err.ensures.any_moment honest) (stood_content (g.D.Disk.state c.args.disk) image number synced stands)

pub returns-in-Err-clause-at_rest : goal.returns-in-Err-clause-at_rest
returns-in-Err-clause-at_rest g c honest synced rest =
    weakens (c.in-Err.ensures.any_moment honest) (λ content left. leaves_seen (g.D.Disk.state c.args.disk) content synced left)
