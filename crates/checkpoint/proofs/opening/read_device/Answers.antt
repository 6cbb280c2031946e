use Rattle.std.proofs.Common.{inl, inr, sym, subst, ap, ◌∙◌}
use Rattle.std.proofs.lemmas.Result.{IfErr-weaker, IfOk-from_err, IfOk-weaker, on_ok_weaker}
use Rattle.disk_model.specs.laws.Moments.{ends, stays_on, weakens}
use Rattle.disk_model.specs.laws.Contents.{leaves_seen}
use Rattle.checkpoint.specs.Keeper.{AreSized, faults_by}
use Rattle.checkpoint.specs.declared.fault.KeeperFault.TheVariants.{DeviceFault}
use Rattle.checkpoint.proofs.ExcludedRefusals.{err_given, is_err}
use Rattle.checkpoint.proofs.SyncedReads.{seen_same}
use Rattle.checkpoint.proofs.opening.read_device.Goals as goal

pub returns-in_err-sync-clause-placed : goal.returns-in_err-sync-clause-placed
returns-in_err-sync-clause-placed g c =
    IfOk-from_err c.from_residual.result _ c.from_residual.ensures.0

pub returns-in_err-sync-clause-none : goal.returns-in_err-sync-clause-none
returns-in_err-sync-clause-none g c =
    IfOk-from_err c.from_residual.result _ c.from_residual.ensures.0

pub returns-in_err-sync-clause-sized : goal.returns-in_err-sync-clause-sized
returns-in_err-sync-clause-sized g c =
    IfOk-from_err c.from_residual.result _ c.from_residual.ensures.0

pub returns-in_err-sync-clause-uncopied : goal.returns-in_err-sync-clause-uncopied
returns-in_err-sync-clause-uncopied g c =
    IfOk-from_err c.from_residual.result _ c.from_residual.ensures.0

pub returns-in_err-sync-clause-many : goal.returns-in_err-sync-clause-many
returns-in_err-sync-clause-many g c =
    IfOk-from_err c.from_residual.result _ c.from_residual.ensures.0

pub returns-in_err-sync-clause-whole : goal.returns-in_err-sync-clause-whole
returns-in_err-sync-clause-whole g c =
    IfOk-from_err c.from_residual.result _ c.from_residual.ensures.0

pub returns-in_err-sync-clause-blocks : goal.returns-in_err-sync-clause-blocks
returns-in_err-sync-clause-blocks g c =
    IfOk-from_err c.from_residual.result _ c.from_residual.ensures.0

pub returns-in_err-sync-clause-faults_ok : goal.returns-in_err-sync-clause-faults_ok
returns-in_err-sync-clause-faults_ok g c =
    IfOk-from_err c.from_residual.result _ c.from_residual.ensures.0

pub returns-in_err-sync-clause-faults_err : goal.returns-in_err-sync-clause-faults_err
returns-in_err-sync-clause-faults_err g c =
    err_given _ c.from_residual.result DeviceFault c.from_residual.ensures.1 c.in_err-sync.ensures.faults

pub returns-in_err-sync-clause-extent : goal.returns-in_err-sync-clause-extent
returns-in_err-sync-clause-extent g c = c.sync.ensures.extent

pub returns-in_err-sync-clause-honest : goal.returns-in_err-sync-clause-honest
returns-in_err-sync-clause-honest g c = c.sync.ensures.honest

pub returns-in_err-sync-clause-fixed : goal.returns-in_err-sync-clause-fixed
returns-in_err-sync-clause-fixed g c honest = (c.in_err-sync.ensures.failed honest).seen

pub returns-in_err-sync-clause-first : goal.returns-in_err-sync-clause-first
returns-in_err-sync-clause-first g c honest = inr (is_err c.from_residual.result DeviceFault c.from_residual.ensures.1, c.in_err-sync.ensures.failed honest)

pub returns-in_err-sync-clause-any_moment : goal.returns-in_err-sync-clause-any_moment
returns-in_err-sync-clause-any_moment g c = c.sync.ensures.any_moment

pub returns : goal.returns
returns g c = record {
  extent = c.read_parts.ensures.extent ∙ c.sync.ensures.extent;
  faults_ok = on_ok_weaker c.read_parts.result (λ same. same ∙ c.in_ok-sync.ensures.faults) c.read_parts.ensures.faults_ok;
  faults_err = IfErr-weaker c.read_parts.result _ _ (λ fault same. same ∙ ap (faults_by fault) c.in_ok-sync.ensures.faults) c.read_parts.ensures.faults_err;
  honest =
      let first = c.sync.ensures in
      let second = c.read_parts.ensures in
      (λ honest. first.honest.0 (second.honest.0 honest), λ honest. second.honest.1 (first.honest.1 honest));
  whole = IfOk-weaker c.read_parts.result _ _ (λ opened whole. sym c.sync.ensures.extent ∙ whole) c.read_parts.ensures.whole;
  placed = c.read_parts.ensures.placed;
  none = c.read_parts.ensures.none;
  sized = IfOk-weaker c.read_parts.result _ _ (λ opened sized. subst (AreSized opened.plans.items opened.header.geometry) c.sync.ensures.extent sized) c.read_parts.ensures.sized;
  blocks = c.read_parts.ensures.blocks;
  uncopied = c.read_parts.ensures.uncopied;
  many = c.read_parts.ensures.many;
  fixed = λ honest.
      let trusted = c.sync.ensures.honest.1 honest in
      let moments = stays_on (c.sync.ensures.any_moment honest) (g.met.D.Disk.sound c.sync.new.self trusted) (c.read_parts.ensures.only_read trusted).any_moment in
      let sound = g.met.D.Disk.sound c.read_parts.new.disk (c.read_parts.ensures.honest.1 trusted) in
      ends moments sound _ sound.as_read;
  first = λ honest.
      let trusted = c.sync.ensures.honest.1 honest in
      let first = g.D.Disk.state c.sync.new.self in
      let synced = (c.in_ok-sync.ensures.synced honest).synced in
      let only_read = c.read_parts.ensures.only_read trusted in
      let seen = seen_same (g.met.D.Disk.sound c.sync.new.self trusted) synced only_read in
      inl (record {
        first = c.sync.new.self;
        synced = synced;
        seen = seen;
        until_then = c.sync.ensures.any_moment honest;
        from_then = weakens only_read.any_moment (λ content left. leaves_seen first content synced left ∙ seen);
      });
  read = λ honest. c.read_parts.ensures.read (c.sync.ensures.honest.1 honest) (c.in_ok-sync.ensures.synced honest).synced;
  any_moment = λ honest.
      let trusted = c.sync.ensures.honest.1 honest in
      stays_on (c.sync.ensures.any_moment honest) (g.met.D.Disk.sound c.sync.new.self trusted) (c.read_parts.ensures.only_read trusted).any_moment;
}
