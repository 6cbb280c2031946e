use Rattle.std.proofs.Common.{◌≡◌, ◌≢◌, ◌≤◌, ◌<◌, ◌+◌, ◌*◌, ℕ, List, Some, None, length, get_or}
use Rattle.shared_cache.specs.Cache.{bytes_seen}
use Rattle.order_book.proofs.reading.read_in_memory.Given as goal

abbrev pub invariant-loop-block : goal.invariant-loop-block
invariant-loop-block l = record {
  size : length l.into ≡ length l.fn.into;
  kept : (k : ℕ) → k < 4096 * l.from → get_or l.into k 0 ≡ get_or l.fn.into k 0;
  held : (j k : ℕ) (bytes : List ℕ) → l.from ≤ j → j < l.block → k < 4096 → bytes_seen l.cache (l.first + j) ≡ Some bytes
      → get_or l.into (4096 * j + k) 0 ≡ get_or bytes k 0;
  there : (j : ℕ) → l.from ≤ j → j < l.block → bytes_seen l.cache (l.first + j) ≢ None;
}
