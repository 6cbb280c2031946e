-- what calls that add bytes after others leave, where the last answers for all
use Rattle.std.proofs.Common.{◌≡◌, ◌∙◌, if◌then◌else◌, List, ◌++◌, Result, Ok, Err, is_ok, OnOk, ap, sym, append_assoc}

-- three parts
pub three_appended : {X : Type 0} {T E : Type 0} (answer : Result T E) (old a b c one two new whole : List X) → one ≡ old ++ a → two ≡ one ++ b
    → new ≡ (if is_ok answer then two ++ c else two) → whole ≡ a ++ (b ++ c) → OnOk answer (new ≡ old ++ whole)
three_appended {X} (Ok value) old a b c one two new whole first second third parts =
    third
    ∙ ap (λ (list : List X). list ++ c) (second ∙ ap (λ (list : List X). list ++ b) first)
    ∙ append_assoc (old ++ a) b c
    ∙ append_assoc old a (b ++ c)
    ∙ ap (λ (list : List X). old ++ list) (sym parts)
three_appended (Err error) old a b c one two new whole first second third parts = tt
