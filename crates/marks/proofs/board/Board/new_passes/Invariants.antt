use Rattle.std.proofs.Common.{◌≡◌, replicate}
use Rattle.marks.specs.Known.{knowing}
use Rattle.marks.proofs.board.Board.new_passes.Given as goal

abbrev pub invariant-loop : goal.invariant-loop
invariant-loop g l = record {
  same : l.keeper ≡ l.fn.keeper;
  passes : l.passes.items ≡ replicate l.counter (knowing l.fn.keeper);
}
