use Rattle.marks.proofs.SeatsFitBoard.{opens}
use Rattle.marks.proofs.blank.BlankBoard.new.Goals as goal

pub of_words-requires : goal.of_words-requires
of_words-requires g c = opens _ _ _ _ _
