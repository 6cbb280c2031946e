use Rattle.std.proofs.Common.{◌≢◌, ◌+◌, ◌<◌, ℕ, None}
use Rattle.shared_cache.specs.Cache.{bytes_seen}
use Rattle.order_book.proofs.reading.holds.Given as goal

abbrev pub invariant-loop-offset : goal.invariant-loop-offset
invariant-loop-offset l = (j : ℕ) → j < l.offset → bytes_seen l.cache (l.first + j) ≢ None
