use Rattle.checkpoint.proofs.RefusedHasNoImage.{never_refused}
use Rattle.checkpoint.proofs.laws.refusal_law.Goals as goal

pub returns : goal.returns
returns c content image number fault refused lasting stands = never_refused content image number stands fault refused lasting
