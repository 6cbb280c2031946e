-- Seconds in words.
use Rattle.std.proofs.Common.{◌≡◌, ◌<◌, ◌+◌, ◌*◌, ◌^◌, ◌++◌, ◌∷◌, ℕ, Option, Some, None, ap, length, subst, sym, ◌∙◌}
use Rattle.std.specs.Prelude.{IfSome}
use Rattle.std.specs.Option.{SomeIff}
use Rattle.std.specs.Str.Parse.{IsNumeral, digits_value, without_leading_plus}
use Rattle.clap.specs.Words.{Text}
use Rattle.command_line.specs.Seconds.{IsFraction, IsNumber, IsScale, IsSeconds, broken, whole}

pub fractioned : (digits : Text) (scale number : ℕ) (result : Option ℕ) → IsScale (length digits) scale → IsNumeral 10 (without_leading_plus digits)
    → number ≡ digits_value 10 (without_leading_plus digits) → SomeIff result (number * scale < 2 ^ 64) (number * scale) → IfSome result (IsFraction digits)
fractioned digits scale number None by numeral is product = tt
fractioned digits scale number (Some millis) by numeral is product =
    record { number = number; scale = scale; value = record { numeral = numeral; is = is }; scaled = by; is = product.1 }

-- the milliseconds of a whole number of seconds
abbrev pub IsWhole : Text → ℕ → Type 0
IsWhole text millis = (seconds : ℕ) × IsNumber text seconds × (millis ≡ seconds * 1000)

pub alone : (text : Text) (result : Option ℕ) → IfSome result (IsWhole text) → IfSome result (IsSeconds text)
alone text None said = tt
alone text (Some millis) said = subst (λ m. IsSeconds text m) (sym said.2) (whole text said.0 said.1)

pub parted : (text before behind : Text) (front fraction : ℕ) (result : Option ℕ) → text ≡ before ++ 46 ∷ behind → IsWhole before front → IsFraction behind fraction
    → SomeIff result (front + fraction < 2 ^ 64) (front + fraction) → IfSome result (IsSeconds text)
parted text before behind front fraction None parts said rest sum = tt
parted text before behind front fraction (Some millis) parts said rest sum =
    let total : millis ≡ said.0 * 1000 + fraction = sum.1 ∙ ap (λ n. n + fraction) said.2 in
    let known : IsSeconds (before ++ 46 ∷ behind) millis = subst (λ m. IsSeconds (before ++ 46 ∷ behind) m) (sym total) (broken before behind said.0 fraction said.1 rest) in
    subst (λ t. IsSeconds t millis) (sym parts) known
