use Rattle.std.proofs.Common.{sym, ◌∙◌, arith}
use Rattle.marks.proofs.StepsKeepRule.{raises_durable}
use Rattle.marks.proofs.board.Board.lift.Goals as goal

pub fetch_max-requires : goal.fetch_max-requires
fetch_max-requires g c = (c.requires.seat.table ∙ sym c.args.self.now.named, omega (arith, c.args.self.now.word_count), raises_durable _ _ _ _ _ _ _ _ c.requires.right c.requires.seat.unspent c.requires.accepted)
