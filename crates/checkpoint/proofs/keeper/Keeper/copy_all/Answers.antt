use Rattle.device_image.specs.Keeper.{KeeperState}
use Rattle.std.proofs.lemmas.Result.{IfOk-from_err}
use Rattle.std.proofs.Common.{Err, ℕ, ap, ◌∙◌, refl, subst, sym, arith}
use Rattle.std.proofs.lemmas.Bool.{false≢true}
use Rattle.disk_model.specs.laws.Moments.{begins, goes_on}
use Rattle.device_image.specs.laws.Kept.{kept_content}
use Rattle.checkpoint.specs.Keeper.{faults_by}
use Rattle.checkpoint.specs.Steps.{IsCopyTime}
use Rattle.checkpoint.specs.inner.Recovery.{IsRecoveryFault}
use Rattle.checkpoint.specs.declared.fault.KeeperFault.{KeeperFault}
use Rattle.checkpoint.specs.declared.fault.KeeperFault.TheVariants.{NumbersFull}
use Rattle.checkpoint.proofs.ExcludedRefusals.{err_given, both_ways, given, ok_apart, same_answer, same_fault}
use Rattle.checkpoint.proofs.HeaderAfterCrash.{header_left}
use Rattle.checkpoint.proofs.RecoveryKeepsImage.{copied_first, copied_last, copied_next, header_of, in_time, keeps_by, left_next, still_kept}
use Rattle.checkpoint.proofs.keeper.Keeper.copy_all.Goals as goal

pub loop-self-init : goal.loop-self-init
loop-self-init g c = record {
  below = omega arith;
  copied = copied_first c.args.self.now c.requires.begun;
  extent = refl;
  faults = refl;
  honest = (λ honest. honest, λ honest. honest);
  remembered = λ commands remembers. remembers;
  kept = λ honest image number keeps. keeps;
  any_moment = λ honest image number keeps. begins (g.met.D.Disk.sound c.args.self.now.disk honest) (λ content left. kept_content _ _ image number keeps content left);
  header = λ honest image number keeps. begins (g.met.D.Disk.sound c.args.self.now.disk honest) (λ content left. header_left _ _ image number keeps content left);
}

pub loop-self-preserved : goal.loop-self-preserved
loop-self-preserved g c =
    let so_far = c.loop-self.invariant in
    let call = c.in_ok-_blocks.ensures in
    record {
      below = omega (arith, so_far.below, left_next c.loop-self.self c.copy_some.new.self c.in_ok-_blocks._blocks call.ok.2);
      copied = copied_next c.args.self.now c.loop-self.self c.copy_some.new.self c.in_ok-_blocks._blocks so_far.below call.left so_far.copied call.ok.2;
      extent = call.extent ∙ so_far.extent;
      faults = call.faults_ok ∙ so_far.faults;
      honest = (λ honest. so_far.honest.0 (call.honest.0 honest), λ honest. call.honest.1 (so_far.honest.1 honest));
      remembered = λ commands remembers. call.remembered commands (so_far.remembered commands remembers);
      kept = λ honest image number keeps. keeps_by c.loop-self.self c.copy_some.new.self _ _ image number (so_far.kept honest image number keeps)
          (ap (λ (k : KeeperState g.row.D.Denot). k.count) call.ok.2) (call.held (so_far.honest.1 honest));
      any_moment = λ honest image number keeps. goes_on (so_far.any_moment honest image number keeps)
          (call.any_moment (so_far.honest.1 honest) image number (so_far.kept honest image number keeps)) (λ content stands. stands);
      header = λ honest image number keeps. goes_on (so_far.header honest image number keeps)
          (call.header (so_far.honest.1 honest) image number (so_far.kept honest image number keeps)) (header_of c.args.self.now c.loop-self.self _ _ _ _ so_far.copied);
    }

pub returns : goal.returns
returns g c = record {
  ok = copied_last c.args.self.now c.loop-self.self c.loop-self.invariant.copied (omega (arith, c.left.ensures, c.loop-self-test.false));
  only = tt;
  not_full = ok_apart _ _;
  extent = c.loop-self.invariant.extent;
  faults_ok = c.loop-self.invariant.faults;
  faults_err = tt;
  honest = c.loop-self.invariant.honest;
  remembered = λ commands remembers. c.loop-self.invariant.remembered commands remembers;
  kept = c.loop-self.invariant.kept;
  kept_still = λ honest image number keeps. tt;
  any_moment = c.loop-self.invariant.any_moment;
  header = c.loop-self.invariant.header;
}

pub returns-in_err-_blocks : goal.returns-in_err-_blocks
returns-in_err-_blocks g c = record {
  ok = IfOk-from_err c.from_residual.result _ c.from_residual.ensures.0;
  only =
      let copied = c.loop-self.invariant.copied in
      let call = c.in_err-_blocks.ensures in
      let works = ap (λ (k : KeeperState g.row.D.Denot). k.failed) copied ∙ c.requires.works in
      let time : IsCopyTime c.loop-self.self.phase = subst IsCopyTime (sym (ap (λ (k : KeeperState g.row.D.Denot). k.phase) copied)) (omega (arith, c.left.ensures, c.loop-self-test.true)) in
      err_given IsRecoveryFault c.from_residual.result c.in_err-_blocks.field-0.0 c.from_residual.ensures.1
      (in_time c.in_err-_blocks.field-0.0 call.only (λ is. absurd (false≢true (sym works ∙ call.failed.0 (ap (λ (f : KeeperFault). Err f) is)))) (λ is. absurd ((call.not_now.0 (ap (λ (f : KeeperFault). Err f) is)).1 time)));
  not_full = λ is. c.in_err-_blocks.ensures.not_full (ap (λ (f : KeeperFault). Err f) (same_fault c.in_err-_blocks.field-0.0 NumbersFull (sym (same_answer c.from_residual.result c.in_err-_blocks.field-0.0 c.from_residual.ensures.1) ∙ is)));
  extent = c.in_err-_blocks.ensures.extent ∙ c.loop-self.invariant.extent;
  faults_ok = IfOk-from_err c.from_residual.result _ c.from_residual.ensures.0;
  faults_err =
      let fault = c.in_err-_blocks.field-0.0 in
      err_given _ c.from_residual.result fault c.from_residual.ensures.1 (c.in_err-_blocks.ensures.faults_err ∙ ap (faults_by fault) c.loop-self.invariant.faults);
  honest = both_ways c.in_err-_blocks.ensures.honest c.loop-self.invariant.honest;
  remembered = λ commands remembers. IfOk-from_err c.from_residual.result _ c.from_residual.ensures.0;
  kept = λ honest image number keeps. IfOk-from_err c.from_residual.result _ c.from_residual.ensures.0;
  kept_still = λ honest image number keeps.
      err_given _ c.from_residual.result c.in_err-_blocks.field-0.0 c.from_residual.ensures.1
      (still_kept g.D.Disk.state (given {T = ℕ} c.in_err-_blocks.field-0.0) c.loop-self.self c.copy_some.new.self image number c.in_err-_blocks.ensures.err (c.loop-self.invariant.kept honest image number keeps));
  any_moment = λ honest image number keeps.
      let so_far = c.loop-self.invariant in
      goes_on (so_far.any_moment honest image number keeps)
      (c.in_err-_blocks.ensures.any_moment (so_far.honest.1 honest) image number (so_far.kept honest image number keeps)) (λ content stands. stands);
  header = λ honest image number keeps.
      let so_far = c.loop-self.invariant in
      goes_on (so_far.header honest image number keeps)
      (c.in_err-_blocks.ensures.header (so_far.honest.1 honest) image number (so_far.kept honest image number keeps)) (header_of c.args.self.now c.loop-self.self _ _ _ _ so_far.copied);
}
