use Rattle.std.proofs.Common.{subst, sym}
use Rattle.disk_model.specs.Disk.{MayLeave}
use Rattle.shared_store.specs.Keepers.{SeatedState}
use Rattle.export.proofs.commit_queue.CommitQueue.close.Goals as goal

pub returns-clause-log : goal.returns-clause-log
returns-clause-log g c = λ logs.
    let (durable, log, left) = c.close.ensures.log logs in
    (durable, log, λ sure content leaves. left sure content (subst (λ (s : SeatedState g.row.D.Denot). MayLeave (g.D.Disk.state s.keeper.disk) content) (sym c.into_shared.ensures) leaves))
