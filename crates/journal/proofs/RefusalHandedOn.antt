-- a refusal that a `?` hands on
use Rattle.std.specs.Prelude.{ℕ, ◌⊎◌, ◌↔◌, IfErr, IsErrAnd, IsErrOf}
use Rattle.std.proofs.Common.{◌≡◌, Result, Ok, Err, ⊎_elim, ◌∙◌, ap, subst, sym}
use Rattle.journal_format.specs.Faults.{faults_by}
use Rattle.journal_format.specs.declared.fault.JournalFault.{JournalFault}
use Rattle.journal_format.specs.declared.fault.JournalFault.TheVariants.{AreaFull, OutOfOrder, DamagedGroup}

pub ok_apart : {T : Type 0} (value : T) (fault : JournalFault) → IsErrOf {E = JournalFault} (Ok value) fault → ⊥
ok_apart value fault is = cc

pub same_fault : {T : Type 0} (fault other : JournalFault) → IsErrOf {T = T} {E = JournalFault} (Err fault) other → fault ≡ other
same_fault fault other is = cc

-- what holds of the refusal holds of the answer
pub err_with : {T : Type 0} (result : Result T JournalFault) (fault : JournalFault) (P : JournalFault → Type 0) → IsErrAnd result (λ given. given ≡ fault) → P fault → IfErr result P
err_with (Ok value) fault P none holds = tt
err_with (Err given) fault P is holds = subst P (sym is) holds

-- it is this one exactly where the one handed on is
pub which_as : {T U : Type 0} (result : Result T JournalFault) (fault found : JournalFault) {P : Type 0} → IsErrAnd result (λ given. given ≡ fault) → IsErrOf {T = U} {E = JournalFault} (Err fault) found ↔ P → IsErrOf result found ↔ P
which_as (Ok value) fault found none whether = absurd none
which_as (Err given) fault found is whether = (λ e. whether.0 (ap Err (sym is ∙ same_fault given found e)), λ holds. ap Err (is ∙ same_fault fault found (whether.1 holds)))

-- it is another one, where this one doesn't come
pub other_one : {T : Type 0} (result : Result T JournalFault) (fault found : JournalFault) {P : Type 0} → IsErrAnd result (λ given. given ≡ fault) → (fault ≡ found → ⊥) → (P → ⊥) → IsErrOf result found ↔ P
other_one (Ok value) fault found none apart never = absurd none
other_one (Err given) fault found is apart never = (λ e. absurd (apart (sym is ∙ same_fault given found e)), λ holds. absurd (never holds))

-- one that is found before anything is written
pub only_undamaged : (fault : JournalFault) → (fault ≡ AreaFull) ⊎ (fault ≡ OutOfOrder) → fault ≡ DamagedGroup → ⊥
only_undamaged fault only damaged = ⊎_elim (λ is. full is damaged) (λ is. late is damaged) only
  where
    full : fault ≡ AreaFull → fault ≡ DamagedGroup → ⊥
    full is damaged = cc

    late : fault ≡ OutOfOrder → fault ≡ DamagedGroup → ⊥
    late is damaged = cc

pub only_kept : (fault : JournalFault) (faults : ℕ) → (fault ≡ AreaFull) ⊎ (fault ≡ OutOfOrder) → faults ≡ faults_by fault faults
only_kept fault faults only = ⊎_elim (λ is. ap (λ (f : JournalFault). faults_by f faults) (sym is)) (λ is. ap (λ (f : JournalFault). faults_by f faults) (sym is)) only
