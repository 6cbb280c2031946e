-- which refusals an answer of the keeper isn't
use Rattle.std.specs.Prelude.{ℕ, IfErr, IsErr}
use Rattle.std.specs.Result.{IsErrAnd}
use Rattle.std.proofs.Common.{◌≡◌, ◌↔◌, None, Some, Result, Ok, Err, ap, refl, subst, sym}
use Rattle.disk_model.specs.Faults.{counted, faults_after}
use Rattle.checkpoint.specs.declared.fault.KeeperFault.{KeeperFault}
use Rattle.checkpoint.specs.declared.fault.KeeperFault.TheVariants.{NoMemory, DeviceFault, NumbersFull, NotNow, Failed}

abbrev pub Given : Type 0 → Type 0
Given T = Result T KeeperFault

pub ok_apart : {T : Type 0} (value : T) (fault : KeeperFault) → ◌≡◌ {A = Given T} (Ok value) (Err fault) → ⊥
ok_apart value fault is = cc

pub some_apart : {T : Type 0} (value : T) → Some value ≡ None → ⊥
some_apart value is = cc

-- one says no more and no less than another, over one between them
pub both_ways : {A B C : Type 0} → (A ↔ B) → (B ↔ C) → A ↔ C
both_ways first second = (λ given. second.0 (first.0 given), λ given. first.1 (second.1 given))

-- what holds of a refusal holds of an answer that is this one
pub err_given : {T : Type 0} (P : KeeperFault → Type 0) (result : Given T) (fault : KeeperFault) → IsErrAnd result (λ given. given ≡ fault) → P fault → IfErr result P
err_given P (Ok value) fault none holds = tt
err_given P (Err given) fault is holds = subst P (sym is) holds

pub is_err : {T : Type 0} (result : Given T) (fault : KeeperFault) → IsErrAnd result (λ given. given ≡ fault) → result ≡ Err fault
is_err (Ok value) fault none = absurd none
is_err (Err given) fault is = ap Err is

pub err_same : {T : Type 0} {fault wanted : KeeperFault} → ◌≡◌ {A = Given T} (Err fault) (Err wanted) → fault ≡ wanted
err_same is = cc

-- an error is one fault of the device more
pub failed_counted : {T E : Type 0} (result : Result T E) (faults : ℕ) → IsErr result → faults_after result faults ≡ counted faults
failed_counted (Ok value) faults is = cc
failed_counted (Err error) faults is = refl

module _ {T : Type 0} where
  abbrev pub given : KeeperFault → Given T
  given fault = Err fault

  -- it isn't one of the three that tell of the keeper, and not of its memory or its device
  pub record IsOther (result : Given T) : Type 0 where
    pub failed : result ≡ Err Failed → ⊥
    pub not_now : result ≡ Err NotNow → ⊥
    pub full : result ≡ Err NumbersFull → ⊥

  -- one that tells of the keeper isn't another of these
  pub failed-not_now : ◌≡◌ {A = Given T} (Err Failed) (Err NotNow) → ⊥
  failed-not_now is = cc

  pub failed-full : ◌≡◌ {A = Given T} (Err Failed) (Err NumbersFull) → ⊥
  failed-full is = cc

  pub failed-no_memory : ◌≡◌ {A = Given T} (Err Failed) (Err NoMemory) → ⊥
  failed-no_memory is = cc

  pub not_now-failed : ◌≡◌ {A = Given T} (Err NotNow) (Err Failed) → ⊥
  not_now-failed is = cc

  pub not_now-full : ◌≡◌ {A = Given T} (Err NotNow) (Err NumbersFull) → ⊥
  not_now-full is = cc

  pub not_now-no_memory : ◌≡◌ {A = Given T} (Err NotNow) (Err NoMemory) → ⊥
  not_now-no_memory is = cc

  pub full-failed : ◌≡◌ {A = Given T} (Err NumbersFull) (Err Failed) → ⊥
  full-failed is = cc

  pub full-not_now : ◌≡◌ {A = Given T} (Err NumbersFull) (Err NotNow) → ⊥
  full-not_now is = cc

  pub full-no_memory : ◌≡◌ {A = Given T} (Err NumbersFull) (Err NoMemory) → ⊥
  full-no_memory is = cc

  pub device_apart : (fault : KeeperFault) → fault ≡ DeviceFault → IsOther (Err fault)
  device_apart fault is = record { failed = λ same. cc; not_now = λ same. cc; full = λ same. cc }

  pub memory_apart : (result : Given T) → IsErrAnd result (λ fault. fault ≡ NoMemory) → IsOther result
  memory_apart (Ok value) none = absurd none
  memory_apart (Err fault) is = record { failed = λ same. cc; not_now = λ same. cc; full = λ same. cc }

  pub no_memory : (result : Given T) → IsErrAnd result (λ fault. fault ≡ NoMemory) → result ≡ Err NoMemory
  no_memory (Ok value) none = absurd none
  no_memory (Err fault) is = ap given is

  -- what tells which refusal it is tells which answer
  pub same_answer : (result : Given T) (fault : KeeperFault) → IsErrAnd result (λ given. given ≡ fault) → result ≡ Err fault
  same_answer (Ok value) fault none = absurd none
  same_answer (Err given') fault is = ap given is

  -- and one answer is one refusal
  pub same_fault : (first second : KeeperFault) → ◌≡◌ {A = Given T} (Err first) (Err second) → first ≡ second
  same_fault first second is = cc
