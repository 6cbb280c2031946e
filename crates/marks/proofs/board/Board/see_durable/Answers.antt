use Rattle.std.proofs.Common.{sym, ◌∙◌, arith}
use Rattle.marks.proofs.StepsKeepRule.{looks_durable}
use Rattle.marks.proofs.board.Board.see_durable.Goals as goal

pub load-requires : goal.load-requires
load-requires g c = (c.requires.seat.table ∙ sym c.args.self.now.named, omega (arith, c.args.self.now.word_count), looks_durable _ _ _ _ _ _ _ c.requires.seat.unspent c.requires.no_order c.requires.no_keeper)
