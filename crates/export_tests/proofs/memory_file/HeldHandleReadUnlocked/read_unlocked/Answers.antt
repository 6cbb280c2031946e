use Rattle.export.specs.Unlocked.{Given}
use Rattle.export_tests.specs.declared.memory_file.Seal.TheVariants.{Whole}
use Rattle.export_tests.proofs.memory_file.HeldHandleReadUnlocked.read_unlocked.Goals as goal

pub returns-then-turn-ne0 : goal.returns-then-turn-ne0
returns-then-turn-ne0 g c = Given Whole

pub returns-else-turn-ne0 : goal.returns-else-turn-ne0
returns-else-turn-ne0 g c = Given Whole
