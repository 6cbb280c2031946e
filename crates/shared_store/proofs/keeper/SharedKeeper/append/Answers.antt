use Rattle.std.proofs.Common.{ap, subst, ◌∙◌}
use Rattle.checkpoint.specs.Keeper.{refused_by}
use Rattle.checkpoint.specs.declared.fault.KeeperFault.{KeeperFault}
use Rattle.device_image.specs.Keeper.{KeeperState}
use Rattle.marks.specs.Known.{KeeperKnows}
use Rattle.disk_model.specs.Disk.{LeavesOnly}
use Rattle.shared_store.specs.Keepers.{SeatedState}
use Rattle.shared_store.specs.Parts.{StandsWithin}
use Rattle.shared_store.proofs.StoredBeginsHistory.{append_leaves, leaves_still, passing, refused_leaves}
use Rattle.shared_store.proofs.StoredBeginsHistory.{append_refused, append_stored}
use Rattle.shared_store.proofs.keeper.SharedKeeper.append.Goals as goal

pub invariant_of-self : goal.invariant_of-self
invariant_of-self g c = let i = c.self.inside in let call = c.in-Ok.ensures in let next = c.append.new.self in let parts = c.into_parts-group.ensures in
    passing g.D.Disk.state g.D.Disk.honest g.B.BoardName.opening g.B.ImageName.image g.B.ImageName.start g.B.ImageName.trusted i.seat i.keeper c.self.invariant c.inform.new.keeper next
    (append_stored g.D.Disk.state g.D.Disk.honest g.B.BoardName.opening g.B.ImageName.image g.B.ImageName.trusted i.seat i.keeper c.self.invariant.stored c.inform.new.keeper c.args.sealed c.into_parts-group.result.0 c.into_parts-group.result.1.history parts.sealed parts.group parts.told
    c.inform.ensures.seen c.inform.ensures.told (ap (λ (s : KeeperKnows). s.durable) c.inform.ensures.keeper) (ap (λ (s : KeeperKnows). s.base) c.inform.ensures.keeper)
    next call.honest.1 call.failed call.full call.out_of_order call.ok call.held)
    c.inform.ensures.seen
    (append_leaves g.D.Disk.state g.D.Disk.honest g.B.BoardName.opening g.B.ImageName.image g.B.ImageName.trusted i.seat i.keeper c.self.invariant.stored c.inform.new.keeper c.args.sealed c.into_parts-group.result.0 c.into_parts-group.result.1.history parts.sealed parts.group parts.told
    c.inform.ensures.seen c.inform.ensures.told (ap (λ (s : KeeperKnows). s.durable) c.inform.ensures.keeper) (ap (λ (s : KeeperKnows). s.base) c.inform.ensures.keeper)
    (g.D.Disk.extent i.keeper.disk) next (g.met.D.Disk.sound i.keeper.disk) call.failed call.full call.out_of_order call.any_moment)

pub invariant_of-self-in-Err : goal.invariant_of-self-in-Err
invariant_of-self-in-Err g c = let i = c.self.inside in let call = c.in-Err.ensures in let next = c.append.new.self in let parts = c.into_parts-group.ensures in
    passing g.D.Disk.state g.D.Disk.honest g.B.BoardName.opening g.B.ImageName.image g.B.ImageName.start g.B.ImageName.trusted i.seat i.keeper c.self.invariant c.inform-in-Err.new.keeper next
    (append_refused g.D.Disk.state g.D.Disk.honest g.B.BoardName.opening g.B.ImageName.image g.B.ImageName.trusted i.seat i.keeper c.self.invariant.stored c.inform-in-Err.new.keeper c.args.sealed c.into_parts-group.result.0 c.into_parts-group.result.1.history parts.sealed parts.group parts.told
    c.inform-in-Err.ensures.seen c.inform-in-Err.ensures.told (ap (λ (s : KeeperKnows). s.durable) c.inform-in-Err.ensures.keeper) (ap (λ (s : KeeperKnows). s.base) c.inform-in-Err.ensures.keeper)
    (g.D.Disk.extent next.disk) next (g.met.D.Disk.sound next.disk) call.honest.1 c.in-Err.field-0-0 call.failed call.full call.out_of_order call.err call.any_moment)
    c.inform-in-Err.ensures.seen
    (refused_leaves g.D.Disk.state g.D.Disk.honest g.B.BoardName.opening g.B.ImageName.image g.B.ImageName.trusted i.seat i.keeper c.self.invariant.stored c.inform-in-Err.new.keeper c.args.sealed c.into_parts-group.result.0 c.into_parts-group.result.1.history parts.sealed parts.group parts.told
    c.inform-in-Err.ensures.seen c.inform-in-Err.ensures.told (ap (λ (s : KeeperKnows). s.durable) c.inform-in-Err.ensures.keeper) (ap (λ (s : KeeperKnows). s.base) c.inform-in-Err.ensures.keeper)
    (g.D.Disk.extent i.keeper.disk) next (g.met.D.Disk.sound i.keeper.disk) c.in-Err.field-0-0 call.failed call.full call.out_of_order call.unchanged call.any_moment)

pub returns-in-Ok-clause-any_moment : goal.returns-in-Ok-clause-any_moment
returns-in-Ok-clause-any_moment g c = let i = c.self.inside in let call = c.in-Ok.ensures in let next = c.append.new.self in let parts = c.into_parts-group.ensures in
    subst (λ (s : SeatedState g.row.D.Denot). g.B.ImageName.trusted → LeavesOnly (g.D.Disk.state s.keeper.disk) (g.D.Disk.state next.disk) (StandsWithin g.B.BoardName.opening g.B.ImageName.image c.inform.new.keeper.history s.keeper.count)) c.self.view_is
    (append_leaves g.D.Disk.state g.D.Disk.honest g.B.BoardName.opening g.B.ImageName.image g.B.ImageName.trusted i.seat i.keeper c.self.invariant.stored c.inform.new.keeper c.args.sealed c.into_parts-group.result.0 c.into_parts-group.result.1.history parts.sealed parts.group parts.told
    c.inform.ensures.seen c.inform.ensures.told (ap (λ (s : KeeperKnows). s.durable) c.inform.ensures.keeper) (ap (λ (s : KeeperKnows). s.base) c.inform.ensures.keeper)
    (g.D.Disk.extent i.keeper.disk) next (g.met.D.Disk.sound i.keeper.disk) call.failed call.full call.out_of_order call.any_moment)

pub returns-in-Err-clause-any_moment : goal.returns-in-Err-clause-any_moment
returns-in-Err-clause-any_moment g c = let i = c.self.inside in let call = c.in-Err.ensures in let next = c.append.new.self in let parts = c.into_parts-group.ensures in
    subst (λ (s : SeatedState g.row.D.Denot). g.B.ImageName.trusted → LeavesOnly (g.D.Disk.state s.keeper.disk) (g.D.Disk.state next.disk) (StandsWithin g.B.BoardName.opening g.B.ImageName.image c.inform-in-Err.new.keeper.history s.keeper.count)) c.self.view_is
    (refused_leaves g.D.Disk.state g.D.Disk.honest g.B.BoardName.opening g.B.ImageName.image g.B.ImageName.trusted i.seat i.keeper c.self.invariant.stored c.inform-in-Err.new.keeper c.args.sealed c.into_parts-group.result.0 c.into_parts-group.result.1.history parts.sealed parts.group parts.told
    c.inform-in-Err.ensures.seen c.inform-in-Err.ensures.told (ap (λ (s : KeeperKnows). s.durable) c.inform-in-Err.ensures.keeper) (ap (λ (s : KeeperKnows). s.base) c.inform-in-Err.ensures.keeper)
    (g.D.Disk.extent i.keeper.disk) next (g.met.D.Disk.sound i.keeper.disk) c.in-Err.field-0-0 call.failed call.full call.out_of_order call.unchanged call.any_moment)

pub returns-in-Err-NoMemory-default-clause-any_moment : goal.returns-in-Err-NoMemory-default-clause-any_moment
returns-in-Err-NoMemory-default-clause-any_moment g c = let i = c.self.inside in let next = c.append.new.self in
    subst (λ (s : SeatedState g.row.D.Denot). g.B.ImageName.trusted → LeavesOnly (g.D.Disk.state s.keeper.disk) (g.D.Disk.state next.disk) (StandsWithin g.B.BoardName.opening g.B.ImageName.image i.seat.history s.keeper.count)) c.self.view_is
    (λ sure. leaves_still g.D.Disk.state g.D.Disk.honest g.B.BoardName.opening g.B.ImageName.image g.B.ImageName.trusted i.seat i.keeper c.self.invariant.stored (g.D.Disk.extent i.keeper.disk) next (g.met.D.Disk.sound i.keeper.disk (c.self.invariant.stored.sure sure)) sure
    (ap (λ (k : KeeperState g.row.D.Denot). k.disk) (c.in-Err-NoMemory-default.ensures.err ∙ ap (λ (f : KeeperFault). refused_by f i.keeper next.disk) c.in-Err-NoMemory-default.field-0-0-is)))

pub returns-in-Err-AreaFull-default-clause-any_moment : goal.returns-in-Err-AreaFull-default-clause-any_moment
returns-in-Err-AreaFull-default-clause-any_moment g c = let i = c.self.inside in let next = c.append.new.self in
    subst (λ (s : SeatedState g.row.D.Denot). g.B.ImageName.trusted → LeavesOnly (g.D.Disk.state s.keeper.disk) (g.D.Disk.state next.disk) (StandsWithin g.B.BoardName.opening g.B.ImageName.image i.seat.history s.keeper.count)) c.self.view_is
    (λ sure. leaves_still g.D.Disk.state g.D.Disk.honest g.B.BoardName.opening g.B.ImageName.image g.B.ImageName.trusted i.seat i.keeper c.self.invariant.stored (g.D.Disk.extent i.keeper.disk) next (g.met.D.Disk.sound i.keeper.disk (c.self.invariant.stored.sure sure)) sure
    (ap (λ (k : KeeperState g.row.D.Denot). k.disk) (c.in-Err-AreaFull-default.ensures.err ∙ ap (λ (f : KeeperFault). refused_by f i.keeper next.disk) c.in-Err-AreaFull-default.field-0-0-is)))
