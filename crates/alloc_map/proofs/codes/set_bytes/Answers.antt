use Rattle.alloc_map.specs.laws.Coded.{code_at-filled}
use Rattle.alloc_map.proofs.codes.set_bytes.Goals as goal

pub returns-clause-codes : goal.returns-clause-codes
returns-clause-codes c = λ q.
    rw c.fill.ensures (code_at-filled _ c.args.from c.args.to c.args.code c.requires.order c.requires.inside c.requires.whole c.requires.code q)
