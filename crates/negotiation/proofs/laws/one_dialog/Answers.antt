use Rattle.negotiation.proofs.OneDialog.{one_dialog_lem}
use Rattle.negotiation.proofs.laws.one_dialog.Goals as goal

pub returns : goal.returns
returns c = one_dialog_lem
