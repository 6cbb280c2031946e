-- Definitions for contracts between functions of this crate, next to those of `Report`.
use Rattle.std.specs.Prelude.{ℕ, ◌≡◌, List, [], ◌∷◌}
use Rattle.image_model.specs.declared.command.Kind.{Kind}
use Rattle.journal_format.specs.Area.{AreaState}
use Rattle.device_image.specs.Keeper.{AreStatesAfter, PlanState}

-- these checkpoints are of areas of an image of this many blocks
abbrev pub AreOf : ℕ → List PlanState → Type 0
AreOf blocks [] = Unit {0}
AreOf blocks (plan ∷ plans) = (plan.first.blocks ≡ blocks) × AreOf blocks plans

-- the states after the areas in use before the last, where these are the ones before them
abbrev pub AreStatesTurned : List PlanState → List Kind → List Kind → Type 0
AreStatesTurned [] before after = after ≡ before
AreStatesTurned (plan ∷ plans) before after = (turned : List Kind) × AreStatesAfter plan.first.touched before turned × AreStatesTurned plans turned after

-- and after the last of them
abbrev pub AreStatesBehind : List PlanState → AreaState → List Kind → List Kind → Type 0
AreStatesBehind plans area before after = (turned : List Kind) × AreStatesTurned plans before turned × AreStatesAfter area.touched turned after
