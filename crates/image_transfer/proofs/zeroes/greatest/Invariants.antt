use Rattle.std.proofs.Common.{◌≡◌, ◌↔◌}
use Rattle.image_transfer.specs.inner.Zeroes.{AreAllZero}
use Rattle.image_transfer.proofs.zeroes.greatest.Given as goal

abbrev pub invariant-loop-byte : goal.invariant-loop-byte
invariant-loop-byte l = (l.greatest ≡ 0) ↔ AreAllZero l.bytes l.byte-index
