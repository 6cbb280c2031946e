-- maps as bytes, by docs/FORMATS.md, "Map slot"
use Rattle.std.specs.Prelude.{ℕ, ◌≡◌, ◌<◌, ◌≤◌, ◌⊎◌, List, length}
use Rattle.image_model.specs.declared.command.Kind.{Kind}
use Rattle.image_model.specs.Geometry.{map_bytes_of}
use Rattle.alloc_map.specs.Codes.{code_at, code_of, state_at}

-- These bytes are the map of these states: a map slot's length, and the code of each block; past the last block all zero.
pub record IsMapOf (bytes : List ℕ) (states : List Kind) : Type 0 where
  pub size : length bytes ≡ map_bytes_of (length states)
  pub codes : (block : ℕ) → code_at bytes block ≡ code_of (state_at states block)

-- A block has code 3, or a bit past the last block is set.
abbrev pub IsBadMap : ℕ → List ℕ → Type 0
IsBadMap blocks bytes = (block : ℕ) × ((code_at bytes block ≡ 3) ⊎ ((blocks ≤ block) × (0 < code_at bytes block)))

-- bytes that are a map of this many blocks
pub record IsMap (blocks : ℕ) (bytes : List ℕ) : Type 0 where
  pub few : blocks ≤ 16777216
  pub size : length bytes ≡ map_bytes_of blocks
  pub below_three : (block : ℕ) → code_at bytes block < 3
  pub padding : (block : ℕ) → blocks ≤ block → code_at bytes block ≡ 0
