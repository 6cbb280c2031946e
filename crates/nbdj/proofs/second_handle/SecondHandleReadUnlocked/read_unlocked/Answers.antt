use Rattle.nbdj.proofs.HandleVouches.{gave}
use Rattle.nbdj.proofs.second_handle.SecondHandleReadUnlocked.read_unlocked.Goals as goal

pub returns-in-Ok : goal.returns-in-Ok
returns-in-Ok g c = gave _ _ _ _
