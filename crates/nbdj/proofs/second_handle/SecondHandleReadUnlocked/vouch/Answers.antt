use Rattle.nbdj.proofs.HandleVouches.{vouched}
use Rattle.nbdj.proofs.second_handle.SecondHandleReadUnlocked.vouch.Goals as goal

pub returns : goal.returns
returns g c = λ yes. vouched _ _ _ _ _ c.args._geometry.now _ c.requires.noted c.requires.given
