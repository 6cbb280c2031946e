use Rattle.std.proofs.Common.{ℕ, List, ◌+◌, ◌∙◌}
use Rattle.std.proofs.lemmas.Result.{on_ok_weaker}
use Rattle.disk_model.specs.Disk.{IsStored, IsSynced, IsWritten, State}
use Rattle.disk_model.specs.laws.Moments.{stays_on}
use Rattle.disk_model.proofs.synced.write_synced.Goals as goal

-- what was written is stable after a good sync
made_stable : (before mid after : State) (offset : ℕ) (bytes : List ℕ) → IsWritten before offset bytes mid → IsSynced mid after → IsStored before offset bytes after
made_stable before mid after offset bytes written synced = record {
  written = λ k below steady. synced.seen.same (offset + k) (λ loose. steady (written.loose (offset + k) loose)) ∙ written.written k below steady;
  others = λ place outside steady. synced.seen.same place (λ loose. steady (written.loose place loose)) ∙ written.others place outside steady;
  synced = synced.synced;
}

pub returns-clause-honest : goal.returns-clause-honest
returns-clause-honest g c =
    let first = c.in_ok-write_at.ensures in
    let second = c.sync.ensures in
    (λ honest. first.honest.0 (second.honest.0 honest), λ honest. second.honest.1 (first.honest.1 honest))

pub returns-clause-stored : goal.returns-clause-stored
returns-clause-stored g c honest =
    let first = c.in_ok-write_at.ensures in
    on_ok_weaker c.sync.result (made_stable _ _ _ c.args.offset c.args.from.now (first.written honest)) (c.sync.ensures.synced (first.honest.1 honest))

pub returns-clause-any_moment : goal.returns-clause-any_moment
returns-clause-any_moment g c honest =
    let first = c.in_ok-write_at.ensures in
    let mid_honest = first.honest.1 honest in
    stays_on (first.any_moment honest) (g.met.D.Disk.sound c.write_at.new.self mid_honest) (c.sync.ensures.any_moment mid_honest)
