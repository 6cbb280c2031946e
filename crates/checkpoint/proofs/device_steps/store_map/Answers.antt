use Rattle.std.proofs.lemmas.Result.{on_ok_weaker, IfOk-from_err}
use Rattle.disk_model.specs.laws.Moments.{stays_on}
use Rattle.checkpoint.proofs.ExcludedRefusals.{both_ways}
use Rattle.checkpoint.proofs.MapStored.{map_stored}
use Rattle.checkpoint.proofs.device_steps.store_map.Goals as goal

pub returns-clause-stored : goal.returns-clause-stored
returns-clause-stored g c honest steady =
    let write = c.in_ok-write_slot.ensures in
    let before = g.D.Disk.state c.args.disk.now in
    let mid = g.D.Disk.state c.write_slot.new.disk in
    let after = g.D.Disk.state c.sync.new.self in
    let sound = g.met.D.Disk.sound c.args.disk.now honest in
    let mid_honest = write.honest.1 honest in
    let mid_sound = g.met.D.Disk.sound c.write_slot.new.disk mid_honest in
    on_ok_weaker c.sync.result
    (map_stored before mid after c.args.regions.now.geometry c.args.slot c.args.map.now sound mid_sound write.extent steady (write.holds honest (λ place within. steady place)) (write.written honest) (write.others honest))
    (c.sync.ensures.synced mid_honest)

pub returns-in_err-write_slot-clause-any_moment : goal.returns-in_err-write_slot-clause-any_moment
returns-in_err-write_slot-clause-any_moment g c =
    c.in_err-write_slot.ensures.any_moment

pub returns-clause-honest : goal.returns-clause-honest
returns-clause-honest g c =
    both_ways c.sync.ensures.honest c.in_ok-write_slot.ensures.honest

pub returns-clause-any_moment : goal.returns-clause-any_moment
returns-clause-any_moment g c honest =
    let write = c.in_ok-write_slot.ensures in
    let mid_honest = write.honest.1 honest in
    stays_on (write.any_moment honest) (g.met.D.Disk.sound c.write_slot.new.disk mid_honest) (c.sync.ensures.any_moment mid_honest)

pub returns-in_err-write_slot-clause-stored : goal.returns-in_err-write_slot-clause-stored
returns-in_err-write_slot-clause-stored g c given given1 =
    IfOk-from_err c.from_residual.result _ c.from_residual.ensures.0
