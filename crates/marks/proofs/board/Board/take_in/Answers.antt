use Rattle.std.proofs.Common.{sym, ◌∙◌, arith}
use Rattle.marks.proofs.StepsKeepRule.{takes_in}
use Rattle.marks.proofs.board.Board.take_in.Goals as goal

pub load-requires : goal.load-requires
load-requires g c = (c.requires.seat.table ∙ sym c.args.self.now.named, omega (arith, c.args.self.now.word_count), takes_in _ _ _ _ _ _ _ c.requires.no_order)
