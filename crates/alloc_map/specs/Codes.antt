-- the two-bit codes of blocks, by docs/FORMATS.md, "Map slot"
use Rattle.std.specs.Prelude.{ℕ, Bool, ◌*◌, ◌/◌, ◌%◌, ◌^◌, List, slice_index, slice_index_or, nat_eq, if◌then◌else◌, map}
use Rattle.std.specs.List.{range_with_len}
use Rattle.image_model.specs.declared.command.Kind.{Kind}
use Rattle.image_model.specs.declared.command.Kind.TheVariants.{Data, Zero, Hole}

-- the code of a block in a map's bytes: bits 2 (block mod 4) and the next of byte block / 4; 0 past the end
abbrev pub code_at : List ℕ → ℕ → ℕ
code_at bytes block = slice_index bytes (block / 4) / 2 ^ (2 * (block % 4)) % 4

-- the code of a state
abbrev pub code_of : Kind → ℕ
code_of Hole = 0
code_of Zero = 1
code_of Data = 2

-- the state that a code below 3 stands for
abbrev pub kind_of : ℕ → Kind
kind_of code = if nat_eq code 0 then Hole else (if nat_eq code 1 then Zero else Data)

-- whether a state is this one
abbrev pub is_state : Kind → Kind → Bool
is_state kind state = nat_eq (code_of state) (code_of kind)

-- the state of a block; past the last block a hole
abbrev pub state_at : List Kind → ℕ → Kind
state_at states block = slice_index_or states block Hole

-- the states of this many blocks by their codes
abbrev pub states_of : ℕ → List ℕ → List Kind
states_of blocks bytes = map (λ block. kind_of (code_at bytes block)) (range_with_len 0 blocks)
