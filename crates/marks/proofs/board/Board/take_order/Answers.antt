use Rattle.std.proofs.Common.{sym, ◌∙◌, arith}
use Rattle.marks.proofs.StepsKeepRule.{takes_order}
use Rattle.marks.proofs.board.Board.take_order.Goals as goal

pub join_seat-requires : goal.join_seat-requires
join_seat-requires g c = let same = sym c.args.self.now.named in
    (c.requires.seats.0.table ∙ same, c.requires.seats.1.table ∙ same, c.requires.seats.1.no_slots, omega (arith, c.args.self.now.word_count), takes_order _ _ _ _ _ _ _ _ c.requires.right)
