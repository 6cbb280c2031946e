use Rattle.std.proofs.Common.{sym, ◌∙◌, arith}
use Rattle.marks.proofs.StepsKeepRule.{looks_accepted}
use Rattle.marks.proofs.board.Board.see_accepted.Goals as goal

pub load-requires : goal.load-requires
load-requires g c = (c.requires.table ∙ sym c.args.self.now.named, omega (arith, c.args.self.now.word_count), looks_accepted _ _ _ _ _ _ _ c.requires.unspent)
