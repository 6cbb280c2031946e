-- A size in words, as users of qemu-img, truncate and nbdkit write it: `10G`, `512M`, `64K`, or plain bytes.
use Rattle.std.specs.Prelude.{◌≡◌, ℕ, ◌*◌, ◌^◌, ◌++◌, [], ◌∷◌}
use Rattle.std.specs.Str.{str_to_ascii_uppercase}
use Rattle.std.specs.Str.Parse.{IsNumeral, digits_value, without_leading_plus}
use Rattle.clap.specs.Words.{Text}

-- what stands after the digits, in capitals, multiplies them by this: nothing, or a letter that stands for a power of 1,024
pub data IsUnit : Text → ℕ → Type 0 where
  plain : IsUnit [] 1
  kilo : IsUnit (75 ∷ []) (2 ^ 10)
  mega : IsUnit (77 ∷ []) (2 ^ 20)
  giga : IsUnit (71 ∷ []) (2 ^ 30)
  tera : IsUnit (84 ∷ []) (2 ^ 40)

-- the text is these digits, with a letter of this unit after them
pub record HasUnit (text digits : Text) (unit : ℕ) : Type 0 where
  pub letter : Text
  pub parts : text ≡ digits ++ letter
  pub is : IsUnit (str_to_ascii_uppercase letter) unit

-- the text says this many bytes
pub record IsSize (text : Text) (bytes : ℕ) : Type 0 where
  pub digits : Text
  pub unit : ℕ
  pub parts : HasUnit text digits unit
  pub numeral : IsNumeral 10 (without_leading_plus digits)
  pub is : bytes ≡ digits_value 10 (without_leading_plus digits) * unit
