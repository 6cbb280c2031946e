use Rattle.std.proofs.Common.{◌≡◌, ◌<◌, ◌+◌, ℕ, List, Some, get_or}
use Rattle.shared_cache.specs.Cache.{bytes_seen}
use Rattle.shared_cache.proofs.cache.Cache.read_cached.Given as goal

abbrev pub invariant-loop-offset : goal.invariant-loop-offset
invariant-loop-offset l = (k : ℕ) (d : List ℕ) → k < l.offset → bytes_seen l.self (l.first + k) ≡ Some (get_or l.into k d)
