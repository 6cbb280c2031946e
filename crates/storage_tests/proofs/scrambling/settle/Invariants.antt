use Rattle.std.proofs.Common.{◌≡◌, length, vec_len}
use Rattle.storage_tests.proofs.scrambling.settle.Given as goal

abbrev pub invariant-loop-index : goal.invariant-loop-index
invariant-loop-index l = length l.places.items ≡ length l.initial.places.items

abbrev pub decreases-loop-index : goal.decreases-loop-index
decreases-loop-index l = vec_len l.unsynced
