-- What the getters of a subcommand's values say of them.
use Rattle.std.proofs.Common.{◌≡◌, ℕ, List, Option, Some, None, option_map, refl, sym}
use Rattle.std.specs.Prelude.{◌<◌, ◌^◌}
use Rattle.std.specs.Str.Parse.{IsNumeral, digits_value, without_leading_plus}
use Rattle.clap.specs.Words.{Row, Text, one_of}
use Rattle.command_line.specs.Line.{IsGiven}

pub number_given : (rows : List Row) (name : Text) (number : ℕ) (found : Option Text) → found ≡ one_of name rows → (found ≡ None → Some number ≡ None)
    → ((text : Text) → found ≡ Some text → (IsNumeral 10 (without_leading_plus text) × (digits_value 10 (without_leading_plus text) < 2 ^ 64)) × (number ≡ digits_value 10 (without_leading_plus text)))
    → IsGiven rows name number
number_given rows name number None same none value = absurd (let e : Some number ≡ None = none refl in cc)
number_given rows name number (Some text) same none value =
    let read = value text refl in
    record { text = text; value = sym same; numeral = read.0.0; is = read.1 }

-- the name and the values of a subcommand, put together again
pub found_whole : {X : Type 0} (found : Option X) (parts : X → Text × List Row) (name : Text) (rows : List Row) → Some name ≡ option_map (λ x. (parts x).0) found
    → Some rows ≡ option_map (λ part. part.1) (option_map parts found) → option_map parts found ≡ Some (name, rows)
found_whole None parts name rows same_name same_rows = absurd (let e : Some name ≡ None = same_name in cc)
found_whole (Some x) parts name rows same_name same_rows =
    let name_is : name ≡ (parts x).0 = cc in
    let rows_is : rows ≡ (parts x).1 = cc in
    λ i. Some (sym name_is i, sym rows_is i)
