use Rattle.image_model.specs.laws.WholeEdits.{whole_put, whole_trim, whole_zeroes}
use Rattle.image_model.proofs.laws.whole_edits_become_commands.Goals as goal

pub returns-clause-put : goal.returns-clause-put
returns-clause-put c offset bytes image is aligned whole = whole_put offset bytes image aligned whole

pub returns-clause-zeroes : goal.returns-clause-zeroes
returns-clause-zeroes c offset count kind image is aligned whole = whole_zeroes offset count image aligned whole is.some kind

pub returns-clause-trim : goal.returns-clause-trim
returns-clause-trim c offset count image is aligned whole = whole_trim offset count image aligned whole is.some
