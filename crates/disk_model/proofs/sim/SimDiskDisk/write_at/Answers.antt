use Rattle.std.proofs.Common.{◌∙◌, inl, inr, reverse, ap, sym}
use Rattle.disk_model.proofs.AnswersOfCalls.{on_ok, on_err, either_way, on_fault, both}
use Rattle.disk_model.proofs.Steps.{put_written, put_failed, put_moments, put_unsynced, put_synced, stays_along, same_failed}
use Rattle.disk_model.proofs.sim.SimDiskDisk.write_at.Goals as goal

pub returns-clause-written : goal.returns-clause-written
returns-clause-written c =
    on_ok _ c.put-stored.result c.count_call-due.result c.outcome.result (c.outcome.ensures.answer ∙ c.settled.ensures) c.put-stored.ensures.put
    (λ put. put_written _ _ _ _ _ _ c.requires put)

pub returns-clause-failed : goal.returns-clause-failed
returns-clause-failed c =
    let stored = c.put-stored in
    on_err c.outcome.result (either_way _ _ stored.result stored.ensures.put (both _ _ stored.result stored.ensures.same_history stored.ensures.same_bytes)
    (λ put. put_failed _ _ _ _ _ _ c.requires put stored.ensures.are_bytes)
    (λ same. same_failed _ _ _ _ _ _ same.0 same.1 stored.ensures.are_bytes))

pub returns-clause-any_moment : goal.returns-clause-any_moment
returns-clause-any_moment c =
    let stored = c.put-stored in
    either_way _ _ stored.result stored.ensures.put (both _ _ stored.result stored.ensures.same_history stored.ensures.same_bytes)
    (λ put. put_moments _ _ _ _ _ _ c.requires put)
    (λ same. stays_along _ _ _ _ _ same.0 same.1 (λ left now. record { size = now.size; bytes = now.bytes; same = λ place synced outside. now.same place synced }))

pub returns-clause-err : goal.returns-clause-err
returns-clause-err c =
    let stored = c.put-stored in
    on_fault _ _ stored.result c.count_call-due.result c.outcome.result (c.outcome.ensures.answer ∙ c.settled.ensures) stored.ensures.put (both _ _ stored.result stored.ensures.same_history stored.ensures.same_bytes)
    (λ put due. inr (
      sym c.count_call-due.ensures.due ∙ due,
      record {
        seen = put.content_is;
        unsynced = put_unsynced _ _ _ _ _ _ c.requires put;
        synced = put_synced _ _ _ _ _ _ c.requires put;
      },
    ))
    (λ same. inl (record { seen = same.1; history = ap reverse same.0 }))
