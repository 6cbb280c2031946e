use Rattle.std.proofs.Common.{◌≡◌, ◌≢◌, ◌≤◌, ◌<◌, ◌+◌, ◌-◌, ◌/◌, ◌%◌, ℕ, List, Some, None, get_or, vec_capacity}
use Rattle.shared_cache.specs.Cache.{bytes_seen}
use Rattle.order_book.proofs.reading.copy_in_memory.Given as goal

abbrev pub invariant-loop-bytes : goal.invariant-loop-bytes
invariant-loop-bytes l = record {
  long : l.bytes.len ≤ l.count;
  room : l.count ≤ vec_capacity l.bytes;
  there : (k : ℕ) → k < l.bytes.len → bytes_seen l.cache ((l.offset + k) / 4096) ≢ None;
  same : (k : ℕ) (block : List ℕ) → k < l.bytes.len → bytes_seen l.cache ((l.offset + k) / 4096) ≡ Some block
      → get_or l.bytes.items k 0 ≡ get_or block ((l.offset + k) % 4096) 0;
}

abbrev pub decreases-loop-bytes : goal.decreases-loop-bytes
decreases-loop-bytes l = l.count - l.bytes.len
