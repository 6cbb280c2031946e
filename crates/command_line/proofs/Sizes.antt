-- Sizes in words.
use Rattle.std.proofs.Common.{◌≡◌, ◌⊎◌, ◌<◌, ◌*◌, ◌^◌, ◌++◌, ◌∷◌, [], ℕ, Option, Some, None, ap, inl, inr, ◌∙◌}
use Rattle.std.specs.Prelude.{IfSome}
use Rattle.std.specs.Option.{SomeIff}
use Rattle.std.specs.Str.{str_to_ascii_uppercase}
use Rattle.std.specs.Str.Parse.{IsNumeral, digits_value, without_leading_plus}
use Rattle.clap.specs.Words.{Text}
use Rattle.command_line.specs.Size.{HasUnit, IsSize, IsUnit}

pub lettered : (text digits : Text) (capital small unit : ℕ) → IsUnit (str_to_ascii_uppercase (capital ∷ [])) unit → IsUnit (str_to_ascii_uppercase (small ∷ [])) unit
    → (text ≡ digits ++ capital ∷ []) ⊎ (text ≡ digits ++ small ∷ []) → HasUnit text digits unit
lettered text digits capital small unit great little (inl parts) = record { letter = capital ∷ []; parts = parts; is = great }
lettered text digits capital small unit great little (inr parts) = record { letter = small ∷ []; parts = parts; is = little }

pub sized : (text digits : Text) (unit number : ℕ) (result : Option ℕ) → HasUnit text digits unit → IsNumeral 10 (without_leading_plus digits)
    → number ≡ digits_value 10 (without_leading_plus digits) → SomeIff result (number * unit < 2 ^ 64) (number * unit) → IfSome result (IsSize text)
sized text digits unit number None parts numeral is product = tt
sized text digits unit number (Some bytes) parts numeral is product =
    record { digits = digits; unit = unit; parts = parts; numeral = numeral; is = product.1 ∙ ap (λ n. n * unit) is }
