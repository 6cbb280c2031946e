use Rattle.shared_store.proofs.StoredBeginsHistory.{begun, opened}
use Rattle.shared_store.proofs.keeper.SharedKeeper.new.Goals as goal

pub invariant_of-result : goal.invariant_of-result
invariant_of-result g c =
    let asked = c.requires in
    begun g.D.Disk.state g.D.Disk.honest g.B.BoardName.opening g.B.ImageName.image g.B.ImageName.start g.B.ImageName.trusted c.args.seat c.args.keeper asked.start
    (opened g.D.Disk.state g.D.Disk.honest g.B.BoardName.opening g.B.ImageName.image g.B.ImageName.trusted c.args.seat c.args.keeper asked.recovered asked.opening asked.seat asked.blocks asked.honest asked.image)
