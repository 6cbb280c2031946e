use Rattle.std.proofs.Common.{sym, ◌∙◌, arith}
use Rattle.marks.proofs.StepsKeepRule.{hears}
use Rattle.marks.proofs.board.Board.hear.Goals as goal

pub join_seat-requires : goal.join_seat-requires
join_seat-requires g c = let same = sym c.args.self.now.named in
    (c.requires.0.table ∙ same, c.requires.1.table ∙ same, c.requires.1.no_slots, omega (arith, c.args.self.now.word_count), hears _ _ _ _ _ _ _ _)
