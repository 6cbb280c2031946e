-- How commands and groups are spelled in bytes, by docs/FORMATS.md, "Group".
use Rattle.std.specs.Prelude.{ℕ, ◌/◌, List, ◌∷◌, ◌++◌, length, map}
use Rattle.std.specs.List.{flat_map}
use Rattle.byteorder.specs.Endian.{big_bytes}
use Rattle.image_model.specs.declared.command.Kind.{Kind}
use Rattle.image_model.specs.declared.command.Kind.TheVariants.{Data, Zero, Hole}
use Rattle.image_model.specs.declared.command.Edges.{Edges}
use Rattle.image_model.specs.declared.command.Edges.TheVariants.{Head, Tail, Both}
use Rattle.image_model.specs.Change.{Change, Written, Cleared, Edged, change_of}
use Rattle.journal_format.specs.Group.{Numbered}

-- changes that are stored whole or not at all, and the number of the first
pub record StoredGroup : Type 0 where
  pub first : ℕ
  pub changes : List Change

-- what is stored of a group
abbrev pub stored_of : Numbered → StoredGroup
stored_of group = record { first = group.first; changes = map change_of group.commands }

-- the byte for what is cleared to this state, which is never data
abbrev pub clear_byte : Kind → ℕ
clear_byte Data = 2
clear_byte Hole = 2
clear_byte Zero = 3

-- the byte for what is cleared to this state but for edges
abbrev pub edged_byte : Kind → ℕ
edged_byte Data = 4
edged_byte Hole = 4
edged_byte Zero = 5

-- the byte that says which edges there are: bit 0 for the head, bit 1 for the tail
abbrev pub edges_byte : Edges → ℕ
edges_byte Head = 1
edges_byte Tail = 2
edges_byte Both = 3

-- the head of a command: its kind, its first block, its blocks
unfoldable pub change_head : ℕ → ℕ → ℕ → List ℕ
change_head kind first blocks = kind ∷ (big_bytes 8 first ++ big_bytes 4 blocks)

-- a command: its head, a put's bytes, and with edges the byte that says which, and their bytes
unfoldable pub change_bytes : Change → List ℕ
change_bytes (Written first bytes) = change_head 1 first (length bytes / 4096) ++ bytes
change_bytes (Cleared first blocks kind) = change_head (clear_byte kind) first blocks
change_bytes (Edged first blocks kind edges bytes) = change_head (edged_byte kind) first blocks ++ edges_byte edges ∷ bytes

-- the commands of a group, one after another
abbrev pub body_of_group : StoredGroup → List ℕ
body_of_group group = flat_map change_bytes group.changes

-- the head of a group after its gate: the length of its body, the number of its first command, the count of commands
unfoldable pub group_head : ℕ → ℕ → ℕ → List ℕ
group_head body first count = big_bytes 4 body ++ (big_bytes 8 first ++ big_bytes 4 count)

-- what stands after a group's gate: its head, and its body
unfoldable pub group_bytes : StoredGroup → List ℕ
group_bytes group = group_head (length (body_of_group group)) group.first (length group.changes) ++ body_of_group group
