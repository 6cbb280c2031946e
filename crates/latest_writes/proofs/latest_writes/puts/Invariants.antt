use Rattle.std.proofs.Common.{◌≡◌, take}
use Rattle.latest_writes.specs.Puts.{puts_of}
use Rattle.latest_writes.proofs.latest_writes.puts.Given as goal

abbrev pub invariant-loop-range : goal.invariant-loop-range
invariant-loop-range l = l.puts.items ≡ puts_of (take l.range-index l.ranges)
