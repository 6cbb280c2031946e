-- the bytes of the commands that aren't durable
use Rattle.std.specs.Prelude.{ℕ, List}

-- the bytes of each of them in a group, in their order, and how many more there is room for
pub record Tally : Type 0 where
  pub bodies : List ℕ
  pub spare : ℕ
