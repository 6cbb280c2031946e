use Rattle.std.proofs.Common.{arith}
use Rattle.alloc_map.specs.laws.Coded.{joined}
use Rattle.alloc_map.proofs.codes.set_codes.Goals as goal

pub returns-clause-codes : goal.returns-clause-codes
returns-clause-codes c = λ q.
    rw (c.set_each-2.ensures.codes q, c.set_bytes.ensures.codes q, c.set_each.ensures.codes q) (joined _ _ _ _ q _ _ (omega arith) (omega arith) (omega arith))
