use Rattle.std.proofs.Common.{sym, ◌∙◌, arith}
use Rattle.marks.proofs.StepsKeepRule.{sends}
use Rattle.marks.proofs.board.Board.send.Goals as goal

pub compare_exchange_with-requires : goal.compare_exchange_with-requires
compare_exchange_with-requires g c = (c.requires.seat.table ∙ sym c.args.self.now.named, omega (arith, c.args.self.now.word_count, c.quiet_word.ensures.inside), sends _ _ _ _ _ _ _ _ 0 _ c.quiet_word.ensures.quiet c.requires.speaks c.requires.idle)
