-- The parts of an option's data, all numbers big endian ("Option types" of NBD's proto.md).
use Rattle.std.specs.Prelude.{ℕ, ◌<◌, ◌^◌, List, ◌++◌, length}
use Rattle.std.specs.Int.{w16, w32, to_be_bytes}
use Rattle.std.specs.List.{AllByRecursion, flat_map}

-- a string: how many bytes it has, and its bytes
abbrev pub counted : List ℕ → List ℕ
counted text = to_be_bytes w32 (length text) ++ text

abbrev pub IsText : List ℕ → Type 0
IsText text = length text < 2 ^ 32

-- types of information: how many, and each of them
unfoldable pub types_bytes : List ℕ → List ℕ
types_bytes types = to_be_bytes w16 (length types) ++ flat_map (to_be_bytes w16) types

abbrev pub AreTypes : List ℕ → Type 0
AreTypes types = (length types < 2 ^ 16) × AllByRecursion (λ kind. kind < 2 ^ 16) types

-- queries: how many, and each of them as a string
unfoldable pub queries_bytes : List (List ℕ) → List ℕ
queries_bytes queries = to_be_bytes w32 (length queries) ++ flat_map counted queries

abbrev pub AreQueries : List (List ℕ) → Type 0
AreQueries queries = (length queries < 2 ^ 32) × AllByRecursion IsText queries

-- what an INFO or a GO asks for: the name of an export, and types of information
pub record InfoAsked : Type 0 where
  pub name : List ℕ
  pub types : List ℕ

abbrev pub IsInfo : InfoAsked → Type 0
IsInfo asked = IsText asked.name × AreTypes asked.types

abbrev pub info_data : InfoAsked → List ℕ
info_data asked = counted asked.name ++ types_bytes asked.types

-- what a LIST_META_CONTEXT or a SET_META_CONTEXT asks for: the name of an export, and queries
pub record ContextAsked : Type 0 where
  pub name : List ℕ
  pub queries : List (List ℕ)

abbrev pub IsContext : ContextAsked → Type 0
IsContext asked = IsText asked.name × AreQueries asked.queries

abbrev pub context_data : ContextAsked → List ℕ
context_data asked = counted asked.name ++ queries_bytes asked.queries
