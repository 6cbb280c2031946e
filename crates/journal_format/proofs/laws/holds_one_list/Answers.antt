use Rattle.journal_format.specs.laws.OneList.{one_list}
use Rattle.journal_format.proofs.laws.holds_one_list.Goals as goal

pub returns : goal.returns
returns c area first content groups others fits list other = one_list area.blocks fits content area.from first groups others list.stand other.stand
