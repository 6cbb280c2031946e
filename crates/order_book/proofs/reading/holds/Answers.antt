use Rattle.std.proofs.Common.{◌+◌, arith, refl, sym}
use Rattle.shared_cache.specs.laws.Views.{seen_missing}
use Rattle.order_book.proofs.BlocksInMemory.{lacks_at}
use Rattle.order_book.proofs.reading.holds.Goals as goal

pub returns-in_default : goal.returns-in_default
returns-in_default c = (λ is. lacks_at c.args.cache.now c.args.first c.args.count c.loop-offset.offset c.loop-offset-test.true (sym c.in_default.ensures), λ lacks. refl)

pub returns : goal.returns
returns c = (
  λ is. cc,
  λ lacks. absurd (c.loop-offset.invariant lacks.0 (let below = lacks.1 in omega arith) (seen_missing c.args.cache.now (c.args.first + lacks.0) lacks.2 lacks.3)),
)
