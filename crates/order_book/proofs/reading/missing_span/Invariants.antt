use Rattle.std.proofs.Common.{◌≡◌, ◌≤◌, ◌<◌, ◌+◌, ℕ, None}
use Rattle.shared_cache.specs.Cache.{bytes_seen}
use Rattle.order_book.proofs.reading.missing_span.Given as goal

abbrev pub invariant-loop-block : goal.invariant-loop-block
invariant-loop-block l = record {
  first : l.first ≤ l.from;
  some : l.from < l.block-end;
  order : l.from ≤ l.end;
  end : l.end ≤ l.block;
  all : (block : ℕ) → l.first ≤ block → block < l.block → bytes_seen l.cache block ≡ None → (l.from ≤ block) × (block < l.end);
  found : l.first < l.end → l.from < l.end;
  begins : l.from < l.end → bytes_seen l.cache l.from ≡ None;
  ends : (block : ℕ) → l.from ≤ block → block + 1 ≡ l.end → bytes_seen l.cache block ≡ None;
}
