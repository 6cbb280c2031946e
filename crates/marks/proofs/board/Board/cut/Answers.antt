use Rattle.std.proofs.Common.{sym, ◌∙◌, arith}
use Rattle.marks.proofs.StepsKeepRule.{tells}
use Rattle.marks.proofs.board.Board.cut.Goals as goal

pub split_seat-requires : goal.split_seat-requires
split_seat-requires g c = (c.requires.table ∙ sym c.args.self.now.named, omega (arith, c.args.self.now.word_count), tells _ _ _ _ _ _)
