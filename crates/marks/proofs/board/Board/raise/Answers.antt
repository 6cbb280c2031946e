use Rattle.std.proofs.Common.{sym, ◌∙◌, arith}
use Rattle.marks.proofs.StepsKeepRule.{raises_accepted}
use Rattle.marks.proofs.board.Board.raise.Goals as goal

pub compare_exchange_with-requires : goal.compare_exchange_with-requires
compare_exchange_with-requires g c = (c.requires.seat.table ∙ sym c.args.self.now.named, omega (arith, c.args.self.now.word_count), raises_accepted _ _ _ _ _ _ _ _ _ c.requires.right c.requires.seat.unspent c.requires.last c.requires.asked)
