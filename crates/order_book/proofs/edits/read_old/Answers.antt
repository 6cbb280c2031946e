use Rattle.std.proofs.Common.{◌≡◌, ◌⊎◌, ⊎_elim, ◌∙◌, ℕ, ap, sym, subst}
use Rattle.std.specs.Prelude.{IfErr, OnOk}
use Rattle.checkpoint.specs.Keeper.{faults_by, refused_by}
use Rattle.checkpoint.specs.declared.fault.KeeperFault.TheVariants.{DeviceFault, Failed}
use Rattle.device_image.specs.Holds.{joined}
use Rattle.std.specs.Bool.{IsTrue}
use Rattle.device_image.specs.Keeper.{KeeperState}
use Rattle.image_model.specs.Edit.{edit_of}
use Rattle.journal_format.specs.laws.Chained.{reads_on}
use Rattle.order_book.specs.Edits.{IsMissing}
use Rattle.order_book.proofs.Editing.{ends_missing}
use Rattle.order_book.proofs.KeeperRefusalHandedOn.{err_with, failed_on, not_failed, ok_is_none, on_ok, works_on}
use Rattle.order_book.proofs.EditBecomesCommand.{map_ok, read_ends, refused_on}
use Rattle.order_book.proofs.edits.read_old.Goals as goal

pub returns-then-last-first : goal.returns-then-last-first
returns-then-last-first g c = record {
  head = c.in_ok-read_part.ensures.size;
  tail = c.requires.tail;
  ok = c.in_ok-read_part.ensures.ok;
  err = tt;
  failed = works_on tt tt c.in_ok-read_part.ensures.failed (λ both. (both.0, ⊎_elim (λ at. at) (subst (IsMissing (edit_of c.args.edit.now) c.args.cache.now) c.if-last-first.true) (ends_missing (edit_of c.args.edit.now) c.args.cache.now c.ends_of-first.result.0 c.ends_of-first.result.1 c.requires.edit.some c.ends_of-first.ensures.first c.ends_of-first.ensures.last both.1)));
  only = tt;
  extent = c.in_ok-read_part.ensures.extent;
  faults_ok = c.in_ok-read_part.ensures.faults_ok;
  faults_err = tt;
  honest = c.in_ok-read_part.ensures.honest;
  only_read = c.in_ok-read_part.ensures.only_read;
  holds = c.in_ok-read_part.ensures.holds;
  bytes = λ honest base fronts last holds.
      read_ends (edit_of c.args.edit.now) c.args.cache.now base (joined fronts) c.ends_of-first.result.0 c.ends_of-first.result.1 _ _ c.requires.edit.some c.ends_of-first.ensures.first c.ends_of-first.ensures.last
      (c.in_ok-read_part.ensures.bytes honest base fronts last holds)
      (λ apart. absurd (apart c.if-last-first.true));
}

pub returns : goal.returns
returns g c = record {
  head = c.in_ok-read_part.ensures.size;
  tail = c.read_part-2.ensures.size;
  ok = subst (λ (keeper : KeeperState g.row.D.Denot). OnOk c.read_part-2.result (c.read_part-2.new.keeper ≡ record keeper { disk = c.read_part-2.new.keeper.disk })) c.in_ok-read_part.ensures.ok c.read_part-2.ensures.ok;
  err =
      refused_on c.args.keeper.now c.read_part.new.keeper c.read_part-2.new.keeper c.read_part-2.result c.in_ok-read_part.ensures.ok
      (λ failed.
      let before = subst IsTrue (ap (λ (keeper : KeeperState g.row.D.Denot). keeper.failed) c.in_ok-read_part.ensures.ok) (c.read_part-2.ensures.failed.0 failed).0 in
      c.in_ok-read_part.ensures.hit (λ missing. not_failed _ before (c.in_ok-read_part.ensures.works missing)))
      c.read_part-2.ensures.only c.read_part-2.ensures.err;
  failed =
      let same = ap (λ (keeper : KeeperState g.row.D.Denot). keeper.failed) c.in_ok-read_part.ensures.ok in (
        λ e. let both = c.read_part-2.ensures.failed.0 e in (subst IsTrue same both.0, (c.ends_of-first.result.1, both.1)),
        λ both. ⊎_elim (λ at. absurd (ok_is_none tt Failed (c.in_ok-read_part.ensures.failed.1 (both.0, at)))) (λ at. c.read_part-2.ensures.failed.1 (subst IsTrue (sym same) both.0, at)) (ends_missing (edit_of c.args.edit.now) c.args.cache.now c.ends_of-first.result.0 c.ends_of-first.result.1 c.requires.edit.some c.ends_of-first.ensures.first c.ends_of-first.ensures.last both.1),
      );
  only = c.read_part-2.ensures.only;
  extent = c.read_part-2.ensures.extent ∙ c.in_ok-read_part.ensures.extent;
  faults_ok = subst (λ (faults : ℕ). OnOk c.read_part-2.result (g.D.Disk.faults c.read_part-2.new.keeper.disk ≡ faults)) c.in_ok-read_part.ensures.faults_ok c.read_part-2.ensures.faults_ok;
  faults_err = subst (λ (faults : ℕ). IfErr c.read_part-2.result (λ fault. g.D.Disk.faults c.read_part-2.new.keeper.disk ≡ faults_by fault faults)) c.in_ok-read_part.ensures.faults_ok c.read_part-2.ensures.faults_err;
  honest = (λ honest. c.in_ok-read_part.ensures.honest.0 (c.read_part-2.ensures.honest.0 honest), λ honest. c.read_part-2.ensures.honest.1 (c.in_ok-read_part.ensures.honest.1 honest));
  only_read = λ honest.
      reads_on (g.met.D.Disk.sound c.args.keeper.now.disk honest) (c.in_ok-read_part.ensures.only_read honest)
      (c.read_part-2.ensures.only_read (c.in_ok-read_part.ensures.honest.1 honest));
  holds = λ honest base fronts last holds. c.read_part-2.ensures.holds (c.in_ok-read_part.ensures.honest.1 honest) base fronts last (c.in_ok-read_part.ensures.holds honest base fronts last holds);
  bytes = λ honest base fronts last holds.
      map_ok c.read_part-2.result
      (λ read. read_ends (edit_of c.args.edit.now) c.args.cache.now base (joined fronts) c.ends_of-first.result.0 c.ends_of-first.result.1 _ _ c.requires.edit.some
      c.ends_of-first.ensures.first c.ends_of-first.ensures.last
      (c.in_ok-read_part.ensures.bytes honest base fronts last holds)
      (λ apart. read))
      (c.read_part-2.ensures.bytes (c.in_ok-read_part.ensures.honest.1 honest) base fronts last (c.in_ok-read_part.ensures.holds honest base fronts last holds));
}

pub returns-in_err-read_part : goal.returns-in_err-read_part
returns-in_err-read_part g c =
    let given = c.from_residual.ensures.1 in record {
      head = c.in_err-read_part.ensures.size;
      tail = c.requires.tail;
      ok = on_ok c.from_residual.result c.in_err-read_part.field-0.0 given _;
      err = err_with c.from_residual.result c.in_err-read_part.field-0.0 given (λ fault. c.read_part.new.keeper ≡ refused_by fault c.args.keeper.now c.read_part.new.keeper.disk) c.in_err-read_part.ensures.err;
      failed = failed_on c.from_residual.result c.in_err-read_part.field-0.0 given c.in_err-read_part.ensures.failed (λ both. (both.0, (c.ends_of-first.result.0, both.1))) (λ both. (both.0, c.in_err-read_part.ensures.lacks));
      only = err_with c.from_residual.result c.in_err-read_part.field-0.0 given (λ fault. (fault ≡ DeviceFault) ⊎ (fault ≡ Failed)) c.in_err-read_part.ensures.only;
      extent = c.in_err-read_part.ensures.extent;
      faults_ok = on_ok c.from_residual.result c.in_err-read_part.field-0.0 given _;
      faults_err = err_with c.from_residual.result c.in_err-read_part.field-0.0 given (λ fault. g.D.Disk.faults c.read_part.new.keeper.disk ≡ faults_by fault (g.D.Disk.faults c.args.keeper.now.disk)) c.in_err-read_part.ensures.faults_err;
      honest = c.in_err-read_part.ensures.honest;
      only_read = c.in_err-read_part.ensures.only_read;
      holds = λ honest base fronts last holds. on_ok c.from_residual.result c.in_err-read_part.field-0.0 given _;
      bytes = λ honest base fronts last holds. on_ok c.from_residual.result c.in_err-read_part.field-0.0 given _;
    }
