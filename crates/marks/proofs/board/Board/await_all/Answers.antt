use Rattle.std.proofs.Common.{sym, ◌∙◌, arith}
use Rattle.marks.proofs.StepsKeepRule.{awaits}
use Rattle.marks.proofs.board.Board.await_all.Goals as goal

pub load-requires : goal.load-requires
load-requires g c = (c.requires.seat.table ∙ sym c.args.self.now.named, omega (arith, c.args.self.now.word_count), awaits _ _ _ _ _ _ _ c.requires.seat.unspent c.requires.asked)
