use Rattle.std.proofs.Common.{◌≡◌, ◌≢◌, ◌+◌, ◌≤◌, ◌<◌, ℕ, suc, List, [], ◌∷◌, length, refl, sym, ◌∙◌, ap, subst, arith}
use Rattle.std.proofs.lemmas.Result.{IfOk-from_err}
use Rattle.checkpoint.proofs.ExcludedRefusals.{err_given, both_ways, same_answer}
use Rattle.disk_model.specs.laws.Moments.{begins, goes_on}
use Rattle.device_image.specs.Keeper.{KeeperState}
use Rattle.device_image.specs.laws.Kept.{kept_content}
use Rattle.checkpoint.specs.Headers.{HeadersFollow}
use Rattle.checkpoint.specs.Steps.{behind_first}
use Rattle.checkpoint.specs.inner.Recovery.{IsBegun}
use Rattle.checkpoint.specs.declared.fault.KeeperFault.TheVariants.{DeviceFault}
use Rattle.device_image.specs.Keeps.{Keeps}
use Rattle.checkpoint.proofs.HeaderAfterCrash.{header_left}
use Rattle.checkpoint.proofs.RecoveryKeepsImage.{begun_left, step_next}
use Rattle.checkpoint.proofs.keeper.Keeper.complete_begun.Goals as goal

pub loop-self-init : goal.loop-self-init
loop-self-init g c = record {
  works = c.requires.works;
  begun = c.requires.begun;
  sizes = refl;
  used = refl;
  generation = refl;
  idle = λ one. refl;
  extent = refl;
  faults = refl;
  honest = (λ honest. honest, λ honest. honest);
  kept = λ honest image number keeps. keeps;
  any_moment = λ honest image number keeps. begins (g.met.D.Disk.sound c.args.self.now.disk honest) (λ content left. kept_content _ _ image number keeps content left);
  headers = λ honest image number keeps. (0, omega arith, begins (g.met.D.Disk.sound c.args.self.now.disk honest) (λ content left. header_left _ _ image number keeps content left));
}

one_fewer : (turned : List ℕ) → 0 < length turned → length (behind_first turned) + 1 ≡ length turned
one_fewer [] some = absurd (omega (arith, some))
one_fewer (first ∷ rest) some = omega arith

pub loop-self-preserved : goal.loop-self-preserved
loop-self-preserved g c =
    let so_far = c.loop-self.invariant in
    let call = c.in_ok-complete_checkpoint.ensures in
    let mid = c.loop-self.self in
    record {
      works = ap (λ (k : KeeperState g.row.D.Denot). k.failed) call.ok ∙ so_far.works;
      begun = subst IsBegun (sym (ap (λ (k : KeeperState g.row.D.Denot). k.phase) call.ok)) (begun_left mid.lefts);
      sizes = ap (λ (k : KeeperState g.row.D.Denot). k.geometry) call.ok ∙ so_far.sizes;
      used = ap (λ (k : KeeperState g.row.D.Denot). k.used) call.ok ∙ so_far.used;
      generation =
          let more = ap (λ (k : KeeperState g.row.D.Denot). k.generation) call.ok in
          let left = ap (λ (k : KeeperState g.row.D.Denot). length k.turned) call.ok in
          let one = one_fewer mid.turned (c.loop-self-test.ensures.turning refl).1 in
          omega (arith, more, left, one, so_far.generation);
      idle = λ one. absurd ((c.loop-self-test.ensures.turning refl).0 (ap (λ (k : KeeperState g.row.D.Denot). k.phase) (so_far.idle one) ∙ one));
      extent = call.extent ∙ so_far.extent;
      faults = call.faults_ok ∙ so_far.faults;
      honest = (λ honest. so_far.honest.0 (call.honest.0 honest), λ honest. call.honest.1 (so_far.honest.1 honest));
      kept = λ honest image number keeps. call.kept (so_far.honest.1 honest) image number (so_far.kept honest image number keeps);
      any_moment = λ honest image number keeps. goes_on (so_far.any_moment honest image number keeps)
          (call.any_moment (so_far.honest.1 honest) image number (so_far.kept honest image number keeps)) (λ content stands. stands);
      headers = λ honest image number keeps.
          let behind = so_far.headers honest image number keeps in
          let left = ap (λ (k : KeeperState g.row.D.Denot). length k.turned) call.ok in
          let one = one_fewer mid.turned (c.loop-self-test.ensures.turning refl).1 in
          let many : suc behind.0 + length c.complete_checkpoint.new.self.turned ≡ length c.args.self.now.turned = omega (arith, behind.1, left, one) in
          let number_is : mid.generation ≡ c.args.self.now.generation + behind.0 = omega (arith, so_far.generation, behind.1) in (
            suc behind.0,
            many,
            (mid.disk, behind.2, step_next c.args.self.now mid behind.0 _ _ so_far.sizes number_is (call.header (so_far.honest.1 honest) image number (so_far.kept honest image number keeps))),
          );
    }

pub returns-in_err-complete_checkpoint-clause-kept_still : goal.returns-in_err-complete_checkpoint-clause-kept_still
returns-in_err-complete_checkpoint-clause-kept_still g c honest image number keeps =
    let so_far = c.loop-self.invariant in
    err_given (λ fault. fault ≢ DeviceFault → Keeps c.complete_checkpoint.new.self (g.D.Disk.state c.complete_checkpoint.new.self.disk) image number) c.from_residual.result c.in_err-complete_checkpoint.field-0.0 c.from_residual.ensures.1
    (c.in_err-complete_checkpoint.ensures.kept_still (so_far.honest.1 honest) image number (so_far.kept honest image number keeps))

pub returns-in_err-complete_checkpoint-clause-any_moment : goal.returns-in_err-complete_checkpoint-clause-any_moment
returns-in_err-complete_checkpoint-clause-any_moment g c honest image number keeps =
    let so_far = c.loop-self.invariant in
    goes_on (so_far.any_moment honest image number keeps)
    (c.in_err-complete_checkpoint.ensures.any_moment (so_far.honest.1 honest) image number (so_far.kept honest image number keeps)) (λ content stands. stands)

pub returns-in_err-complete_checkpoint-clause-headers_err : goal.returns-in_err-complete_checkpoint-clause-headers_err
returns-in_err-complete_checkpoint-clause-headers_err g c honest image number keeps =
    let so_far = c.loop-self.invariant in
    let mid = c.loop-self.self in
    let behind = so_far.headers honest image number keeps in
    let some = (c.loop-self-test.ensures.turning refl).1 in
    let few : suc behind.0 ≤ length c.args.self.now.turned = omega (arith, behind.1, some) in
    let number_is : mid.generation ≡ c.args.self.now.generation + behind.0 = omega (arith, so_far.generation, behind.1) in
    err_given _ c.from_residual.result c.in_err-complete_checkpoint.field-0.0 c.from_residual.ensures.1 (
      suc behind.0,
      few,
      (mid.disk, behind.2, step_next c.args.self.now mid behind.0 _ _ so_far.sizes number_is (c.in_err-complete_checkpoint.ensures.header (so_far.honest.1 honest) image number (so_far.kept honest image number keeps))),
    )

pub returns-in_err-complete_checkpoint-clause-headers_ok : goal.returns-in_err-complete_checkpoint-clause-headers_ok
returns-in_err-complete_checkpoint-clause-headers_ok g c honest image number keeps =
    IfOk-from_err c.from_residual.result _ c.from_residual.ensures.0

pub returns-clause-headers_ok : goal.returns-clause-headers_ok
returns-clause-headers_ok g c honest image number keeps =
    let so_far = c.loop-self.invariant in
    let behind = so_far.headers honest image number keeps in
    let none = ap (λ (turned : List ℕ). length turned) (c.loop-self-test.ensures.resting refl).1 in
    let all : behind.0 ≡ length c.args.self.now.turned = omega (arith, behind.1, none) in
    subst (λ (n : ℕ). HeadersFollow g.D.Disk.state c.args.self.now.geometry c.args.self.now.generation n (g.D.Disk.state c.args.self.now.disk) (g.D.Disk.state c.loop-self.self.disk)) all behind.2

pub returns-in_err-complete_checkpoint-clause-ok : goal.returns-in_err-complete_checkpoint-clause-ok
returns-in_err-complete_checkpoint-clause-ok g c =
    IfOk-from_err c.from_residual.result _ c.from_residual.ensures.0

pub returns-in_err-complete_checkpoint-clause-sizes : goal.returns-in_err-complete_checkpoint-clause-sizes
returns-in_err-complete_checkpoint-clause-sizes g c =
    IfOk-from_err c.from_residual.result _ c.from_residual.ensures.0

pub returns-in_err-complete_checkpoint-clause-faults_ok : goal.returns-in_err-complete_checkpoint-clause-faults_ok
returns-in_err-complete_checkpoint-clause-faults_ok g c =
    IfOk-from_err c.from_residual.result _ c.from_residual.ensures.0

pub returns-in_err-complete_checkpoint-clause-kept : goal.returns-in_err-complete_checkpoint-clause-kept
returns-in_err-complete_checkpoint-clause-kept g c honest image number keeps =
    IfOk-from_err c.from_residual.result _ c.from_residual.ensures.0

pub returns-in_err-complete_checkpoint-clause-extent : goal.returns-in_err-complete_checkpoint-clause-extent
returns-in_err-complete_checkpoint-clause-extent g c =
    c.in_err-complete_checkpoint.ensures.extent ∙ c.loop-self.invariant.extent

pub returns-in_err-complete_checkpoint-clause-honest : goal.returns-in_err-complete_checkpoint-clause-honest
returns-in_err-complete_checkpoint-clause-honest g c =
    both_ways c.in_err-complete_checkpoint.ensures.honest c.loop-self.invariant.honest

pub returns-in_err-complete_checkpoint-clause-used : goal.returns-in_err-complete_checkpoint-clause-used
returns-in_err-complete_checkpoint-clause-used g c =
    IfOk-from_err c.from_residual.result _ c.from_residual.ensures.0

pub returns-in_err-complete_checkpoint-clause-generation : goal.returns-in_err-complete_checkpoint-clause-generation
returns-in_err-complete_checkpoint-clause-generation g c =
    IfOk-from_err c.from_residual.result _ c.from_residual.ensures.0

pub returns-in_err-complete_checkpoint-clause-lacks : goal.returns-in_err-complete_checkpoint-clause-lacks
returns-in_err-complete_checkpoint-clause-lacks g c is =
    let so_far = c.loop-self.invariant in
    let last = c.in_err-complete_checkpoint.ensures.last (sym (same_answer c.from_residual.result c.in_err-complete_checkpoint.field-0.0 c.from_residual.ensures.1) ∙ is) in
    let some = (c.loop-self-test.ensures.turning refl).1 in
    omega (arith, last, some, so_far.generation)
