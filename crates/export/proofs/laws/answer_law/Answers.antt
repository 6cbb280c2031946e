use Rattle.shared_store.specs.Orders.{Trusting}
use Rattle.export.proofs.AnswersSurviveCrash.{flushed, forced}
use Rattle.export.proofs.laws.answer_law.Goals as goal

pub returns-clause-flushed : goal.returns-clause-flushed
returns-clause-flushed g c = λ request kept old new answer history least content is done flush waits grows durable stands.
    flushed g.B.BoardName.opening g.B.ImageName.image old new history least content (is.covered done flush waits) grows durable stands

pub returns-clause-forced : goal.returns-clause-forced
returns-clause-forced g c = λ request kept old new answer history least content is done write waits grows durable stands.
    let (number, own, stored) = is.written done write in (
      number,
      own,
      forced g.B.BoardName.opening g.B.ImageName.image (Trusting g.B.BoardName.opening g.B.ImageName.image g.B.ImageName.vouches g.B.ImageName.trusted) request number old new own (stored waits) history least content grows durable stands,
    )
