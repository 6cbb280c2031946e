use Rattle.std.proofs.Common.{refl}
use Rattle.shared_store.proofs.StoredBeginsHistory.{left_longer, passing_still, seated}
use Rattle.shared_store.proofs.keeper.SharedKeeper.meet.Goals as goal

pub invariant_of-self : goal.invariant_of-self
invariant_of-self g c = rw c.meet.ensures.keeper
    (passing_still g.D.Disk.state g.D.Disk.honest g.B.BoardName.opening g.B.ImageName.image g.B.ImageName.start g.B.ImageName.trusted c.self.inside.seat c.self.inside.keeper c.self.invariant _
    (seated g.D.Disk.state g.D.Disk.honest g.B.BoardName.opening g.B.ImageName.image g.B.ImageName.trusted c.self.inside.seat _ c.self.inside.keeper c.self.invariant.stored c.meet.ensures.knew c.self.invariant.stored.seat_durable refl)
    c.meet.ensures.knew)

pub returns-clause-stored : goal.returns-clause-stored
returns-clause-stored g c = rw c.meet.ensures.keeper
    (seated g.D.Disk.state g.D.Disk.honest g.B.BoardName.opening g.B.ImageName.image g.B.ImageName.trusted c.self.inside.seat _ c.self.inside.keeper c.self.invariant.stored c.meet.ensures.knew c.self.invariant.stored.seat_durable refl)

pub returns-clause-passed : goal.returns-clause-passed
returns-clause-passed g c = λ sure. rw c.meet.ensures.keeper
    (left_longer g.B.BoardName.opening g.B.ImageName.image g.B.ImageName.start (g.D.Disk.state c.self.inside.keeper.disk) c.self.inside.seat.history _ c.meet.ensures.knew (c.self.invariant.passed sure))
