use Rattle.std.proofs.Common.{◌≡◌, ◌≤◌, ◌<◌, ◌+◌, ℕ, None}
use Rattle.shared_cache.specs.Cache.{bytes_seen}
use Rattle.order_book.proofs.reading.missing_end.Given as goal

abbrev pub invariant-loop-block : goal.invariant-loop-block
invariant-loop-block l = (j : ℕ) → l.from ≤ j → j < l.block → bytes_seen l.cache (l.first + j) ≡ None
