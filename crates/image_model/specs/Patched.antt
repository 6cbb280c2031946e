-- a list with some items put in the place of others
use Rattle.std.specs.Prelude.{ℕ, List, ◌++◌, length, take, drop}

-- the list with these items from `at` on
abbrev pub patched : {X : Type 0} → List X → ℕ → List X → List X
patched list at items = take at list ++ (items ++ drop (length items) (drop at list))
