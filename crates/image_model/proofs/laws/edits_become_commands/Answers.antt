use Rattle.image_model.specs.laws.Becoming.{becomes_change, becomes_edit, stays_zero}
use Rattle.image_model.proofs.laws.edits_become_commands.Goals as goal

pub returns-clause-same : goal.returns-clause-same
returns-clause-same c edit image is zero = becomes_edit edit image is.some zero

pub returns-clause-taken : goal.returns-clause-taken
returns-clause-taken c edit image numbered is = becomes_change edit image numbered is

pub returns-clause-zero : goal.returns-clause-zero
returns-clause-zero c edit image zero = stays_zero edit image zero
