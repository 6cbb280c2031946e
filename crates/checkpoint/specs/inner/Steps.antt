-- what a step takes over once the first area is no longer in use
use Rattle.std.specs.Prelude.{List, [], ◌∷◌, Option, Some, None}
use Rattle.image_model.specs.declared.command.Kind.{Kind}
use Rattle.device_image.specs.Keeper.{PlanState}

-- the map once the one that was written is in force
abbrev pub map_in : Option (List Kind) → List Kind → List Kind
map_in None map = map
map_in (Some states) map = states

abbrev pub map_after : List PlanState → List Kind → List Kind
map_after [] map = map
map_after (plan ∷ plans) map = map_in plan.mapped map

-- the checkpoints after the first
abbrev pub plans_behind : List PlanState → List PlanState
plans_behind [] = []
plans_behind (plan ∷ plans) = plans
