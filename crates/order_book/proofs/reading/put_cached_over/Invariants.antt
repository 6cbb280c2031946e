use Rattle.order_book.proofs.BlocksWrittenToSlice.{ArePut}
use Rattle.order_book.proofs.reading.put_cached_over.Given as goal

abbrev pub invariant-loop-block : goal.invariant-loop-block
invariant-loop-block l = ArePut l.cache l.first l.span l.fn.into l.block l.into
