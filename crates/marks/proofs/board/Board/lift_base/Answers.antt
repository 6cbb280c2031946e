use Rattle.std.proofs.Common.{sym, ◌∙◌, arith}
use Rattle.marks.proofs.StepsKeepRule.{raises_base}
use Rattle.marks.proofs.board.Board.lift_base.Goals as goal

pub compare_exchange-requires : goal.compare_exchange-requires
compare_exchange-requires g c = (c.requires.seat.table ∙ sym c.args.self.now.named, omega (arith, c.args.self.now.word_count), raises_base _ _ _ _ _ _ _ _ c.requires.right c.requires.more)
