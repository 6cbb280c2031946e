use Rattle.std.proofs.Common.{◌≡◌, ◌≤◌, ℕ, ap, subst, arith, List}
use mathlib.Core.List.{IsPrefix}
use Rattle.disk_model.specs.Disk.{MayLeave}
use Rattle.image_model.specs.Change.{Change}
use Rattle.marks.specs.Known.{KeeperKnows, Marks, PassState}
use Rattle.marks.specs.laws.Beginnings.{prefix_trans}
use Rattle.shared_store.specs.Keepers.{SeatedState, HasLeft}
use Rattle.shared_store.specs.Parts.{StandsWithin}
use Rattle.shared_store.proofs.StoredBeginsHistory.{left_longer, passing_still, seated, stands_less}
use Rattle.shared_store.proofs.keeper.SharedKeeper.meet_pass.Goals as goal

pub invariant_of-self : goal.invariant_of-self
invariant_of-self g c =
    let i = c.self.inside in let same = c.inform.ensures.keeper in
    let durable : c.inform.new.keeper.durable ≡ i.seat.durable = ap (λ (s : KeeperKnows). s.durable) same in
    passing_still g.D.Disk.state g.D.Disk.honest g.B.BoardName.opening g.B.ImageName.image g.B.ImageName.start g.B.ImageName.trusted i.seat i.keeper c.self.invariant c.inform.new.keeper
    (seated g.D.Disk.state g.D.Disk.honest g.B.BoardName.opening g.B.ImageName.image g.B.ImageName.trusted i.seat c.inform.new.keeper i.keeper c.self.invariant.stored c.inform.ensures.seen
    (let stored = c.self.invariant.stored.seat_durable in omega (arith, durable, stored)) (ap (λ (s : KeeperKnows). s.base) same))
    c.inform.ensures.seen

pub returns-clause-known : goal.returns-clause-known
returns-clause-known g c =
    let after = c.tell-told.new.pass in
    let told : IsPrefix after.history c.inform.new.keeper.history = subst (λ (l : List Change). IsPrefix l c.inform.new.keeper.history) (ap (λ (m : Marks). m.history) c.tell-told.ensures.told) c.inform.ensures.told in
    prefix_trans c.args.pass.now.history after.history c.inform.new.keeper.history c.tell-told.ensures.seen told

pub returns-clause-durable : goal.returns-clause-durable
returns-clause-durable g c =
    let durable = ap (λ (m : Marks). m.durable) c.tell-told.ensures.told in
    let own = ap (λ (p : PassState). p.durable) c.tell-told.ensures.pass in
    let stored = c.self.invariant.stored.seat_durable in
    let covered = c.inform.ensures.durable in
    subst (λ (s : SeatedState g.row.D.Denot). c.args.pass.now.durable ≤ s.keeper.count) c.self.view_is (omega (arith, durable, own, stored, covered))

pub returns-clause-left : goal.returns-clause-left
returns-clause-left g c =
    let i = c.self.inside in let pass = c.args.pass.now in
    let durable = ap (λ (m : Marks). m.durable) c.tell-told.ensures.told in
    let own = ap (λ (p : PassState). p.durable) c.tell-told.ensures.pass in
    let stored = c.self.invariant.stored.seat_durable in
    let covered = c.inform.ensures.durable in
    subst (λ (s : SeatedState g.row.D.Denot). g.B.ImageName.trusted → (content : List ℕ) → MayLeave (g.D.Disk.state s.keeper.disk) content → StandsWithin g.B.BoardName.opening g.B.ImageName.image c.inform.new.keeper.history pass.durable content) c.self.view_is
    (stands_less g.D.Disk.state g.D.Disk.honest g.B.BoardName.opening g.B.ImageName.image g.B.ImageName.trusted i.seat i.keeper c.self.invariant.stored c.inform.new.keeper pass.durable c.inform.ensures.seen (omega (arith, durable, own, stored, covered)))

pub returns-clause-passed : goal.returns-clause-passed
returns-clause-passed g c =
    let i = c.self.inside in
    subst (λ (s : SeatedState g.row.D.Denot). g.B.ImageName.trusted → HasLeft g.B.ImageName.start (g.D.Disk.state s.keeper.disk) g.B.BoardName.opening g.B.ImageName.image c.inform.new.keeper.history) c.self.view_is
    (λ sure. left_longer g.B.BoardName.opening g.B.ImageName.image g.B.ImageName.start (g.D.Disk.state i.keeper.disk) i.seat.history c.inform.new.keeper.history c.inform.ensures.seen (c.self.invariant.passed sure))
