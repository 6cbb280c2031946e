-- several blocks copied at once, as steps of the world
use Rattle.std.specs.Prelude.{ℕ, zero, suc}
use Rattle.export_model.specs.declared.step.Step.TheVariants.{Copy}
use Rattle.export_model.specs.Serve.{Nothing}
use Rattle.export_model.specs.Step.{after_step}
use Rattle.export_model.specs.World.{World}

-- the world after this many steps that copy a block each, in which nothing fails
abbrev pub copied : World → ℕ → World
copied world zero = world
copied world (suc count) = copied (after_step world Copy Nothing) count
