use Rattle.journal_format.specs.laws.Within.{last_put_within}
use Rattle.journal_format.proofs.laws.last_puts_within.Goals as goal

pub returns : goal.returns
returns c = last_put_within
