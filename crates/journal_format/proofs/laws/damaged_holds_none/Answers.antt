use Rattle.journal_format.specs.laws.OneList.{damaged_none}
use Rattle.journal_format.proofs.laws.damaged_holds_none.Goals as goal

pub returns : goal.returns
returns c area first content groups fits damaged list = damaged_none area first content groups fits damaged list
