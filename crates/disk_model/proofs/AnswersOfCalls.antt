-- What a call of a simulated device answers, by what came of its parts.
use Rattle.std.proofs.Common.{◌≡◌, Bool, true, false, ◌&&◌, not, Result, Ok, Err, is_ok, OnOk, OnErr, IsTrue, refl}

-- whichever it was
pub either_way : {T E G : Type 0} (P Q : Type 0) (stored : Result T E) → OnOk stored P → OnErr stored Q → (P → G) → (Q → G) → G
either_way P Q (Ok value) put same from_put from_same = from_put put
either_way P Q (Err error) put same from_put from_same = from_same same

pub on_err : {U F G : Type 0} (answer : Result U F) → G → OnErr answer G
on_err (Ok unit) always = tt
on_err (Err fault) always = always

-- the answer is Ok only where what was stored is
pub on_ok : {T E U F G : Type 0} (P : Type 0) (stored : Result T E) (due : Bool) (answer : Result U F) → is_ok answer ≡ (is_ok stored && not due) → OnOk stored P → (P → G) → OnOk answer G
on_ok P (Ok value) due (Ok unit) is put from_put = from_put put
on_ok P (Err error) due (Ok unit) is put from_put = cc
on_ok P (Ok value) due (Err fault) is put from_put = tt
on_ok P (Err error) due (Err fault) is put from_put = tt

-- at Err with all stored a fault was due
pub on_fault : {T E U F G : Type 0} (P Q : Type 0) (stored : Result T E) (due : Bool) (answer : Result U F) → is_ok answer ≡ (is_ok stored && not due)
    → OnOk stored P → OnErr stored Q → (P → IsTrue due → G) → (Q → G) → OnErr answer G
on_fault P Q (Ok value) due (Ok unit) is put same from_put from_same = tt
on_fault P Q (Err error) due (Ok unit) is put same from_put from_same = tt
on_fault P Q (Err error) due (Err fault) is put same from_put from_same = from_same same
on_fault P Q (Ok value) true (Err fault) is put same from_put from_same = from_put put refl
on_fault P Q (Ok value) false (Err fault) is put same from_put from_same = cc

pub both : {T E : Type 0} (P Q : Type 0) (answer : Result T E) → OnErr answer P → OnErr answer Q → OnErr answer (P × Q)
both P Q (Ok value) p q = tt
both P Q (Err error) p q = (p, q)
