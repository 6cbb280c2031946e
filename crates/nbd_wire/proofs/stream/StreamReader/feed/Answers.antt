use Rattle.std.proofs.Common.{◌≡◌, List, sym, subst, ap, ◌∙◌}
use Rattle.nbd_wire.specs.Request.{Message}
use Rattle.nbd_wire.specs.Stream.{Reader, reading, Feeds, answered}
use Rattle.nbd_wire.specs.State.{kept, reader_of}
use Rattle.nbd_wire.specs.laws.Streams.{Feeds-advances}
use Rattle.nbd_wire.proofs.stream.StreamReader.feed.Goals as goal

pub returns-clause-stream : goal.returns-clause-stream
returns-clause-stream g c =
    let new : Reader = reader_of c.read_all-state.result.0 in
    let old : reading (kept c.in-Some.state) ≡ c.args.self.now = ap reader_of (sym c.in-Some.is ∙ c.take.ensures.value) ∙ c.self.view_is in
    subst (λ (r : Reader). Feeds r c.args.piece.now (answered c.answer.result) new) old
    (subst (λ (ms : List Message). Feeds (reading (kept c.in-Some.state)) c.args.piece.now ms new) (sym c.answer.ensures.answered)
    (Feeds-advances (kept c.in-Some.state) c.args.piece.now c.read_all-state.result.1.items new c.read_all-state.ensures.reads))
