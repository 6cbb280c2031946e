use Rattle.std.proofs.Common.{sym, ◌∙◌, arith}
use Rattle.marks.proofs.StepsKeepRule.{makes_client}
use Rattle.marks.proofs.board.Board.make.Goals as goal

pub split_seat-requires : goal.split_seat-requires
split_seat-requires g c = (c.requires.seat.table ∙ sym c.args.self.now.named, omega (arith, c.args.self.now.word_count), makes_client _ _ _ _ _ _ c.requires.right)
