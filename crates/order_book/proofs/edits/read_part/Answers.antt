use Rattle.std.proofs.Common.{◌≡◌, ◌⊎◌, ◌∙◌, length, refl, sym}
use Rattle.std.proofs.lemmas.Bool.{true≢false}
use Rattle.checkpoint.specs.Keeper.{faults_by, refused_by}
use Rattle.checkpoint.specs.declared.fault.KeeperFault.TheVariants.{DeviceFault, Failed}
use Rattle.device_image.specs.Holds.{joined}
use Rattle.image_model.specs.Edit.{edit_of}
use Rattle.journal_format.specs.laws.Chained.{none_read}
use Rattle.shared_cache.specs.laws.Views.{seen_missing}
use Rattle.order_book.proofs.KeeperRefusalHandedOn.{err_with, failed_on, is_not, ok_is_none, on_err, on_ok, works_on}
use Rattle.order_book.proofs.BlocksInMemory.{lacks_of, missing_of}
use Rattle.order_book.proofs.EditBecomesCommand.{read_one}
use Rattle.order_book.proofs.edits.read_part.Goals as goal

pub returns : goal.returns
returns g c = record {
  size = c.read_blocks.ensures.size ∙ c.requires.whole;
  ok = c.in_ok-read_blocks.ensures.ok;
  err = tt;
  failed = works_on c.in_ok-read_blocks.field-0 tt c.in_ok-read_blocks.ensures.failed (λ both. (both.0, lacks_of (edit_of c.args.edit.now) c.args.cache.now c.args.block (length c.args.into.now) c.requires.whole both.1));
  works = λ missing. is_not _ (λ failed. ok_is_none c.in_ok-read_blocks.field-0 Failed (c.in_ok-read_blocks.ensures.failed.1 (failed, lacks_of (edit_of c.args.edit.now) c.args.cache.now c.args.block (length c.args.into.now) c.requires.whole missing)));
  hit = λ none. (c.in_ok-read_blocks.ensures.all_held (λ lacks. none (missing_of (edit_of c.args.edit.now) c.args.cache.now c.args.block (length c.args.into.now) c.requires.whole (sym c.needs_old.ensures ∙ c.if-not-needs_old.false) lacks))).1;
  lacks = tt;
  only = tt;
  extent = c.in_ok-read_blocks.ensures.extent;
  faults_ok = c.in_ok-read_blocks.ensures.faults_ok;
  faults_err = tt;
  honest = c.in_ok-read_blocks.ensures.honest;
  only_read = c.in_ok-read_blocks.ensures.only_read;
  holds = c.in_ok-read_blocks.ensures.holds;
  bytes = λ honest base fronts last holds k below missing kind unwritten.
      read_one base (joined fronts) c.args.cache.now c.args.block c.read_blocks.new.into (c.in_ok-read_blocks.ensures.from_base honest base fronts last holds)
      (c.read_blocks.ensures.size ∙ c.requires.whole) (seen_missing c.args.cache.now c.args.block missing.1 missing.2) kind unwritten k below;
}

pub returns-in_err-read_blocks : goal.returns-in_err-read_blocks
returns-in_err-read_blocks g c =
    let given = c.from_residual.ensures.1 in record {
      size = c.read_blocks.ensures.size ∙ c.requires.whole;
      ok = on_ok c.from_residual.result c.in_err-read_blocks.field-0.0 given _;
      err = err_with c.from_residual.result c.in_err-read_blocks.field-0.0 given (λ fault. c.read_blocks.new.keeper ≡ refused_by fault c.args.keeper.now c.read_blocks.new.keeper.disk) c.in_err-read_blocks.ensures.err;
      failed = failed_on c.from_residual.result c.in_err-read_blocks.field-0.0 given c.in_err-read_blocks.ensures.failed (λ both. (both.0, missing_of (edit_of c.args.edit.now) c.args.cache.now c.args.block (length c.args.into.now) c.requires.whole (sym c.needs_old.ensures ∙ c.if-not-needs_old.false) both.1)) (λ both. (both.0, lacks_of (edit_of c.args.edit.now) c.args.cache.now c.args.block (length c.args.into.now) c.requires.whole both.1));
      works = on_ok c.from_residual.result c.in_err-read_blocks.field-0.0 given _;
      hit = λ none. absurd (none (missing_of (edit_of c.args.edit.now) c.args.cache.now c.args.block (length c.args.into.now) c.requires.whole (sym c.needs_old.ensures ∙ c.if-not-needs_old.false) c.in_err-read_blocks.ensures.lacks));
      lacks = on_err c.from_residual.result c.in_err-read_blocks.field-0.0 given (missing_of (edit_of c.args.edit.now) c.args.cache.now c.args.block (length c.args.into.now) c.requires.whole (sym c.needs_old.ensures ∙ c.if-not-needs_old.false) c.in_err-read_blocks.ensures.lacks);
      only = err_with c.from_residual.result c.in_err-read_blocks.field-0.0 given (λ fault. (fault ≡ DeviceFault) ⊎ (fault ≡ Failed)) c.in_err-read_blocks.ensures.only;
      extent = c.in_err-read_blocks.ensures.extent;
      faults_ok = on_ok c.from_residual.result c.in_err-read_blocks.field-0.0 given _;
      faults_err = err_with c.from_residual.result c.in_err-read_blocks.field-0.0 given (λ fault. g.D.Disk.faults c.read_blocks.new.keeper.disk ≡ faults_by fault (g.D.Disk.faults c.args.keeper.now.disk)) c.in_err-read_blocks.ensures.faults_err;
      honest = c.in_err-read_blocks.ensures.honest;
      only_read = c.in_err-read_blocks.ensures.only_read;
      holds = λ honest base fronts last holds. on_ok c.from_residual.result c.in_err-read_blocks.field-0.0 given _;
      bytes = λ honest base fronts last holds. on_ok c.from_residual.result c.in_err-read_blocks.field-0.0 given _;
    }

pub returns-then-not-needs_old : goal.returns-then-not-needs_old
returns-then-not-needs_old g c = record {
  size = c.requires.whole;
  ok = refl;
  err = tt;
  failed = (λ e. absurd (ok_is_none tt Failed e), λ both. absurd (true≢false (sym both.1.0 ∙ (sym c.needs_old.ensures ∙ c.if-not-needs_old.true))));
  works = λ missing. absurd (true≢false (sym missing.0 ∙ (sym c.needs_old.ensures ∙ c.if-not-needs_old.true)));
  hit = λ none. refl;
  lacks = tt;
  only = tt;
  extent = refl;
  faults_ok = refl;
  faults_err = tt;
  honest = (λ honest. honest, λ honest. honest);
  only_read = λ honest. none_read (g.met.D.Disk.sound c.args.keeper.now.disk honest);
  holds = λ honest base fronts last holds. holds;
  bytes = λ honest base fronts last holds k below missing kind unwritten. absurd (true≢false (sym missing.0 ∙ (sym c.needs_old.ensures ∙ c.if-not-needs_old.true)));
}
