-- runs of the world
use Rattle.std.specs.Prelude.{◌≡◌, List, [], ◌∷◌}
use Rattle.export_model.specs.declared.step.Step.{Step}
use Rattle.export_model.specs.Serve.{Failure}
use Rattle.export_model.specs.Step.{after_step}
use Rattle.export_model.specs.World.{World, Setting, fresh}

-- the worlds that schedules lead to: fresh ones, and those that a step leaves of another
pub data IsReached : World → Type 0 where
  Fresh : (setting : Setting) → IsReached (fresh setting)
  After : {world : World} (step : Step) (failure : Failure) → IsReached world → IsReached (after_step world step failure)

-- the steps, each with what fails in it, lead from one world to another
abbrev pub IsRun : World → List Step → World → Type 0
IsRun world [] last = last ≡ world
IsRun world (step ∷ steps) last = (failure : Failure) × IsRun (after_step world step failure) steps last
