-- what is written of a reply
use Rattle.std.specs.Prelude.{ℕ, ◌≡◌, Bool, true, List, ◌++◌, Option}
use Rattle.std.specs.Io.KnownBytes.{Appends}

-- Of what was due the first bytes were written, and the others are due still; where that failed they are lost.
pub record Writes (old new : Option (List ℕ)) (before after : List ℕ) (is_kept : Bool) : Type 0 where
  pub text : List ℕ
  pub unsent : List ℕ
  pub begins : before ≡ text ++ unsent
  pub written : Appends old new text
  pub left : is_kept ≡ true → after ≡ unsent
