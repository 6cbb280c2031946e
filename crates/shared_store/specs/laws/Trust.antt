-- what follows from a fact that rests on reads with no lock held
use Rattle.std.specs.Prelude.{ℕ, List, [], ◌∷◌}
use Rattle.export_model.specs.declared.step.Mode.{Mode}
use Rattle.image_model.specs.Image.{Image}
use Rattle.shared_store.specs.Logs.{IsLogOf}
use Rattle.shared_store.specs.Orders.{AreRight, AreVouched, IsRight, SpanRead, Trusting}

-- it rests on the same reads
pub trusting : (opening : ℕ) (image : Image) (vouches : SpanRead → Type 0) (trusted : Type 0) {P Q : Type 0} → (P → Q) → Trusting opening image vouches trusted P → Trusting opening image vouches trusted Q
trusting opening image vouches trusted then is = record { reads = is.reads; vouched = is.vouched; so = λ sure right. then (is.so sure right) }

-- what holds anyway rests on none
pub anyway : (opening : ℕ) (image : Image) (vouches : SpanRead → Type 0) (trusted : Type 0) {P : Type 0} → P → Trusting opening image vouches trusted P
anyway opening image vouches trusted is = record { reads = []; vouched = tt; so = λ sure right. is }

-- where all reads are right that were vouched for, these are
pub all_right : (opening : ℕ) (image : Image) (vouches : SpanRead → Type 0) → ((read : SpanRead) → ∥ vouches read ∥₁ → IsRight opening image read) → (reads : List SpanRead) → AreVouched vouches reads
    → AreRight opening image reads
all_right opening image vouches right [] vouched = tt
all_right opening image vouches right (read ∷ reads) vouched = (right read vouched.0, all_right opening image vouches right reads vouched.1)

-- what is trusted of memory holds where the log is trusted
pub logged : (opening : ℕ) (first : Image) (vouches : SpanRead → Type 0) (sure : Type 0) (kept : Mode) (trusted : Type 0) (mode : Mode) (image : Image) {P : Type 0}
    → IsLogOf opening first vouches sure kept trusted mode image → trusted → Trusting opening first vouches sure P → P
logged opening first vouches sure kept trusted mode image log trusts is = is.so (log.device trusts) (all_right opening first vouches (log.right trusts) is.reads is.vouched)
