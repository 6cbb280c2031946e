use Rattle.std.specs.Result.{IsErrAnd}
use Rattle.std.proofs.Common.{◌≡◌, ◌↔◌, ◌⊎◌, ◌∙◌, Err, ap, sym}
use Rattle.std.proofs.lemmas.Result.{IfOk-from_err}
use Rattle.checkpoint.specs.Keeper.{faults_by, refused_by}
use Rattle.checkpoint.specs.Steps.{IsStepFault}
use Rattle.checkpoint.specs.declared.fault.KeeperFault.{KeeperFault}
use Rattle.checkpoint.specs.declared.fault.KeeperFault.TheVariants.{DeviceFault, Failed, NotNow, NumbersFull}
use Rattle.checkpoint.proofs.ExcludedRefusals.{Given, err_given, same_answer, same_fault}
use Rattle.checkpoint.proofs.keeper.Keeper.copy_one.Goals as goal

-- a refusal that is handed on is another one exactly where it was that
handed_on : {S T P : Type 0} (result : Given T) (fault other : KeeperFault) → IsErrAnd result (λ given. given ≡ fault) → (◌≡◌ {A = Given S} (Err fault) (Err other) ↔ P) → (result ≡ Err other) ↔ P
handed_on {S} result fault other at whether = (
  λ is. whether.0 (ap Err (same_fault fault other (sym (same_answer result fault at) ∙ is))),
  λ holds. same_answer result fault at ∙ ap Err (same_fault fault other (whether.1 holds)),
)

pub returns-in_err-_one : goal.returns-in_err-_one
returns-in_err-_one g c =
    let old = c.args.self.now in
    let new = c.copy_some.new.self in
    let result = c.from_residual.result in
    let refusal = c.in_err-_one.field-0.0 in
    let given = c.from_residual.ensures.1 in
    let call = c.in_err-_one.ensures in record {
      ok = IfOk-from_err result _ c.from_residual.ensures.0;
      err = err_given (λ (fault : KeeperFault). new ≡ refused_by fault old new.disk) result refusal given call.err;
      failed = handed_on result refusal Failed given call.failed;
      not_now = handed_on result refusal NotNow given call.not_now;
      only = err_given IsStepFault result refusal given call.only;
      not_full = λ is. call.not_full (ap Err (same_fault refusal NumbersFull (sym (same_answer result refusal given) ∙ is)));
      unchanged = err_given (λ (fault : KeeperFault). (fault ≡ DeviceFault) ⊎ (new.disk ≡ old.disk)) result refusal given call.unchanged;
      extent = call.extent;
      faults_ok = IfOk-from_err result _ c.from_residual.ensures.0;
      faults_err = err_given (λ (fault : KeeperFault). g.D.Disk.faults new.disk ≡ faults_by fault (g.D.Disk.faults old.disk)) result refusal given call.faults_err;
      honest = call.honest;
      remembered = λ commands remembers. IfOk-from_err result _ c.from_residual.ensures.0;
      held = λ honest base fronts last holds. IfOk-from_err result _ c.from_residual.ensures.0;
      any_moment = call.any_moment;
      header = call.header;
    }
