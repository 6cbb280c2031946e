-- a refusal that a `?` hands on
use Rattle.std.specs.Prelude.{ℕ, IfErr, IsErr, IsErrAnd, IsErrOf}
use Rattle.std.proofs.Common.{◌≡◌, Result, Ok, Err, refl, subst, sym}
use Rattle.disk_model.specs.Faults.{counted, faults_after}
use Rattle.journal_format.specs.declared.fault.JournalFault.{JournalFault}
use Rattle.journal_format.specs.declared.fault.JournalFault.TheVariants.{NoMemory, DeviceFault, DamagedGroup}

-- what holds of the refusal holds of the answer
pub err_with : {T : Type 0} (result : Result T JournalFault) (fault : JournalFault) (P : JournalFault → Type 0) → IsErrAnd result (λ given. given ≡ fault) → P fault → IfErr result P
err_with (Ok value) fault P none holds = tt
err_with (Err given) fault P is holds = subst P (sym is) holds

-- one of the device tells of no damage
pub not_damaged : {T : Type 0} (result : Result T JournalFault) → IsErrAnd result (λ given. given ≡ DeviceFault) → IsErrOf result DamagedGroup → ⊥
not_damaged (Ok value) none damaged = none
not_damaged (Err given) is damaged = cc

-- nor does one of memory
pub memory_undamaged : {T : Type 0} (result : Result T JournalFault) → IsErrAnd result (λ given. given ≡ NoMemory) → IsErrOf result DamagedGroup → ⊥
memory_undamaged (Ok value) none damaged = none
memory_undamaged (Err given) is damaged = cc

pub ok_apart : {T : Type 0} (value : T) (fault : JournalFault) → IsErrOf {E = JournalFault} (Ok value) fault → ⊥
ok_apart value fault is = cc

-- it is one fault of the device more
pub err_counted : {T E : Type 0} (result : Result T E) (faults : ℕ) → IsErr result → faults_after result faults ≡ counted faults
err_counted (Ok value) faults is = cc
err_counted (Err given) faults is = refl
