use Rattle.std.proofs.Common.{refl}
use Rattle.disk_model.proofs.AnswersOfCalls.{either_way}
use Rattle.disk_model.proofs.Steps.{sync_moments, stays_along}
use Rattle.disk_model.proofs.sim.SimDiskDisk.sync.Goals as goal

pub returns-clause-any_moment : goal.returns-clause-any_moment
returns-clause-any_moment c =
    either_way _ _ c.note_sync.result c.note_sync.ensures.noted c.note_sync.ensures.same
    (λ synced. sync_moments _ c.args.self.now.bytes.items _ synced)
    (λ same. stays_along _ _ c.args.self.now.bytes.items _ _ same refl (λ left now. record { size = now.size; bytes = now.bytes; same = now.same }))
