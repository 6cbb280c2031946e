use Rattle.std.proofs.Common.{arith}
use Rattle.journal_format.proofs.scan.stored.Goals as goal

pub overflow_add-result : goal.overflow_add-result
overflow_add-result c = omega (arith, c.requires c.in_ok-edges.edges c.in_ok-edges.was)
