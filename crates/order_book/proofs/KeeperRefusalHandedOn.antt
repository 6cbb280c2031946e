-- a refusal of the keeper that is handed on
use Rattle.std.specs.Prelude.{IfErr, OnErr, OnOk}
use Rattle.std.specs.Bool.{IsTrue}
use Rattle.std.specs.Result.{IsErrAnd}
use Rattle.std.proofs.Common.{◌≡◌, ◌↔◌, ◌∙◌, Bool, true, false, Result, Ok, Err, ap, refl, sym, subst}
use Rattle.std.proofs.lemmas.Bool.{true≢false}
use Rattle.checkpoint.specs.declared.fault.KeeperFault.{KeeperFault}
use Rattle.checkpoint.specs.declared.fault.KeeperFault.TheVariants.{Failed}

pub not_failed : (failed : Bool) → IsTrue failed → failed ≡ false → ⊥
not_failed failed is never = true≢false (sym is ∙ never)

pub is_not : (failed : Bool) → (IsTrue failed → ⊥) → failed ≡ false
is_not true never = absurd (never refl)
is_not false never = refl

pub ok_is_none : {X : Type 0} (value : X) (fault : KeeperFault) → ◌≡◌ {A = Result X KeeperFault} (Ok value) (Err fault) → ⊥
ok_is_none value fault is = cc

pub err_of : {X : Type 0} (fault other : KeeperFault) → ◌≡◌ {A = Result X KeeperFault} (Err fault) (Err other) → fault ≡ other
err_of fault other is = cc

module _ {X : Type 0} (result : Result X KeeperFault) (fault : KeeperFault) (is : IsErrAnd result (λ given. given ≡ fault)) where
  pub err_is : result ≡ Err fault
  err_is = by result is
    where
      by : (r : Result X KeeperFault) → IsErrAnd r (λ given. given ≡ fault) → r ≡ Err fault
      by (Ok value) at = absurd at
      by (Err given) at = ap Err at

  pub err_with : (P : KeeperFault → Type 0) → P fault → IfErr result P
  err_with P holds = subst (λ (r : Result X KeeperFault). IfErr r P) (sym err_is) holds

  pub on_err : {P : Type 0} → P → OnErr result P
  on_err {P} holds = subst (λ (r : Result X KeeperFault). OnErr r P) (sym err_is) holds

  pub on_ok : (P : Type 0) → OnOk result P
  on_ok P = subst (λ (r : Result X KeeperFault). OnOk r P) (sym err_is) tt

  -- it is that of a keeper that had failed exactly where this was
  pub failed_on : {Y P Q : Type 0} → ◌≡◌ {A = Result Y KeeperFault} (Err fault) (Err Failed) ↔ P → (P → Q) → (Q → P) → (result ≡ Err Failed) ↔ Q
  failed_on whether to back = (λ e. to (whether.0 (ap Err (err_of fault Failed (sym err_is ∙ e)))), λ holds. err_is ∙ ap Err (err_of fault Failed (whether.1 (back holds))))

-- a call that was well is none of a keeper that had failed
pub works_on : {X Y P Q : Type 0} (value : X) (other : Y) → ◌≡◌ {A = Result X KeeperFault} (Ok value) (Err Failed) ↔ P → (Q → P) → ◌≡◌ {A = Result Y KeeperFault} (Ok other) (Err Failed) ↔ Q
works_on value other whether back = (λ e. absurd (ok_is_none other Failed e), λ holds. absurd (ok_is_none value Failed (whether.1 (back holds))))
