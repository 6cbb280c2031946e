use Rattle.std.proofs.Common.{◌≡◌, length}
use Rattle.storage_tests.proofs.scrambling.scramble.Given as goal

abbrev pub invariant-loop-index : goal.invariant-loop-index
invariant-loop-index l = length l.places.items ≡ length l.initial.places.items
