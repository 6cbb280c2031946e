use Rattle.std.proofs.Common.{ap, arith}
use Rattle.image_model.specs.Command.{body_of}
use Rattle.journal.proofs.group.touched_by.Goals as goal

pub overflow_cast-result : goal.overflow_cast-result
overflow_cast-result c = omega (arith, c.requires.small, ap body_of c.in-Put.is, c.len.ensures)
