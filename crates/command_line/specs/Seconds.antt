-- A number of seconds in words, with up to three digits after a point: `5`, `0.1`, `1.25`.
use Rattle.std.specs.Prelude.{◌≡◌, ◌⊎◌, ℕ, ◌*◌, ◌+◌, ◌++◌, ◌∷◌, length}
use Rattle.std.specs.Str.Parse.{IsNumeral, digits_value, without_leading_plus}
use Rattle.clap.specs.Words.{Text}

-- the text is this number in decimal digits
pub record IsNumber (text : Text) (number : ℕ) : Type 0 where
  pub numeral : IsNumeral 10 (without_leading_plus text)
  pub is : number ≡ digits_value 10 (without_leading_plus text)

-- the last of this many digits after the point counts these milliseconds
abbrev pub IsScale : ℕ → ℕ → Type 0
IsScale digits millis = ((digits ≡ 1) × (millis ≡ 100)) ⊎ ((digits ≡ 2) × (millis ≡ 10)) ⊎ ((digits ≡ 3) × (millis ≡ 1))

-- the digits after the point say this many milliseconds
pub record IsFraction (digits : Text) (millis : ℕ) : Type 0 where
  pub number : ℕ
  pub scale : ℕ
  pub value : IsNumber digits number
  pub scaled : IsScale (length digits) scale
  pub is : millis ≡ number * scale

-- the text says this many milliseconds: a number of seconds, alone, or with a point (46) and digits after it
pub data IsSeconds : Text → ℕ → Type 0 where
  whole : (text : Text) (seconds : ℕ) → IsNumber text seconds → IsSeconds text (seconds * 1000)
  broken : (before behind : Text) (seconds millis : ℕ) → IsNumber before seconds → IsFraction behind millis → IsSeconds (before ++ 46 ∷ behind) (seconds * 1000 + millis)
