-- how many bytes commands and groups have, and how a list of groups grows
use Rattle.std.proofs.Common.{◌≡◌, ℕ, ◌+◌, ◌/◌, List, [], ◌∷◌, ◌++◌, length, map, ◌∙◌, ap, refl, arith, length-append}
use Rattle.std.specs.List.{flat_map}
use Rattle.std.proofs.lemmas.List.{length-map}
use Rattle.std.proofs.lemmas.List.Folds.{flat_map-map}
use Rattle.std.proofs.lemmas.List.Sums.{sum_by-cons}
use Rattle.image_model.specs.declared.command.Command.{Command}
use Rattle.image_model.specs.declared.command.Command.TheVariants as command
use Rattle.image_model.specs.Command.{body_of, bodies_of}
use Rattle.image_model.specs.Change.{change_of}
use Rattle.journal_format.specs.Group.{Numbered}
use Rattle.journal_format.specs.Spelling.{StoredGroup, stored_of, clear_byte, edged_byte, edges_byte, change_head, change_bytes, body_of_group, group_head, group_bytes}
use Rattle.journal_format.specs.GroupList.{size_of, sizes_of, number_behind, next_behind}

pub length-change_head : (kind first blocks : ℕ) → length (change_head kind first blocks) ≡ 13
unfolding change_head
length-change_head kind first blocks = refl

pub length-group_head : (body first count : ℕ) → length (group_head body first count) ≡ 16
unfolding group_head
length-group_head body first count = refl

pub length-change : (command : Command) → length (change_bytes (change_of command)) ≡ body_of command
unfolding change_bytes
length-change (command.Put first bytes) = omega (arith, length-append (change_head 1 first (length bytes.items / 4096)) bytes.items, length-change_head 1 first (length bytes.items / 4096))
length-change (command.Clear first blocks kind) = length-change_head (clear_byte kind) first blocks
length-change (command.Edged first blocks kind edges bytes) =
    omega (arith, length-append (change_head (edged_byte kind) first blocks) (edges_byte edges ∷ bytes.items), length-change_head (edged_byte kind) first blocks)

pub length-body : (commands : List Command) → length (flat_map change_bytes (map change_of commands)) ≡ bodies_of commands
length-body [] = refl
length-body (command ∷ commands) =
    length-append (change_bytes (change_of command)) (flat_map change_bytes (map change_of commands))
    ∙ omega (arith, length-change command, length-body commands, sum_by-cons body_of command commands)

pub length-group : (group : StoredGroup) → length (group_bytes group) ≡ 16 + length (body_of_group group)
unfolding group_bytes
length-group group = omega (arith, length-append {A = ℕ}, length-group_head (length (body_of_group group)) group.first (length group.changes))

-- one group more at the end
pub sizes-push : (groups : List StoredGroup) (group : StoredGroup) → sizes_of (groups ++ group ∷ []) ≡ sizes_of groups + size_of group
sizes-push [] group = omega (arith, sum_by-cons size_of group [])
sizes-push (g ∷ groups) group = omega (arith, sizes-push groups group, sum_by-cons size_of g groups, sum_by-cons size_of g (groups ++ group ∷ []))

pub next-push : (next : ℕ) (groups : List StoredGroup) (group : StoredGroup) → next_behind next (groups ++ group ∷ []) ≡ number_behind group
next-push next [] group = refl
next-push next (g ∷ groups) group = next-push (number_behind g) groups group

-- a group's bytes, from its commands as the program holds them
pub group_spelled : (group : Numbered) → group_bytes (stored_of group) ≡ group_head (bodies_of group.commands) group.first (length group.commands) ++ flat_map (λ command. change_bytes (change_of command)) group.commands
unfolding group_bytes
group_spelled group =
    let all : flat_map change_bytes (map change_of group.commands) ≡ flat_map (λ command. change_bytes (change_of command)) group.commands = flat_map-map change_bytes change_of group.commands in
    ap (λ (size : ℕ). group_head size group.first (length (map change_of group.commands)) ++ flat_map change_bytes (map change_of group.commands)) (length-body group.commands)
    ∙ ap (λ (count : ℕ). group_head (bodies_of group.commands) group.first count ++ flat_map change_bytes (map change_of group.commands)) (length-map group.commands change_of)
    ∙ ap (λ (rest : List ℕ). group_head (bodies_of group.commands) group.first (length group.commands) ++ rest) all
