-- what adding a group does to an area, and when it is refused
use Rattle.std.specs.Prelude.{ℕ, ◌≡◌, ◌+◌, ◌≤◌, ◌++◌}
use Rattle.image_model.specs.Command.{bodies_of}
use Rattle.journal_format.specs.Area.{AreaState}
use Rattle.journal_format.specs.Group.{Numbered, number_after}
use Rattle.journal_format.specs.Spelling.{stored_of}
use Rattle.journal_format.specs.Touches.{touched_by_changes}

-- where in the area the gate after the group would end
abbrev pub end_after : AreaState → Numbered → ℕ
end_after area group = area.gate + 18 + bodies_of group.commands

-- the group begins with the area's next number, and there is one
abbrev pub IsNext : AreaState → Numbered → Type 0
IsNext area group = (1 ≤ area.next) × (group.first ≡ area.next)

-- the area with the group added
abbrev pub grown : AreaState → Numbered → AreaState
grown area group = record area {
  next = number_after group;
  gate = area.gate + 17 + bodies_of group.commands;
  touched = area.touched ++ touched_by_changes (area.from + area.gate + 17) (stored_of group).changes;
}
