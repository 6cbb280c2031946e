use Rattle.std.proofs.Common.{ℕ, ◌≡◌, ◌+◌, List, ap, arith, sym, ◌∙◌, subst}
use Rattle.std.proofs.lemmas.Bool.{le-leb, leb-true}
use mathlib.Core.List.{IsPrefix}
use Rattle.device_image.specs.Keeper.{KeeperState}
use Rattle.disk_model.specs.Disk.{MayLeave}
use Rattle.export.specs.Clients.{LastState}
use Rattle.export_model.specs.OneLog.{IsOneLog, RosterState}
use Rattle.image_model.specs.Change.{Change}
use Rattle.image_model.specs.Image.{Image}
use Rattle.marks.specs.Known.{PassState}
use Rattle.marks.specs.laws.Beginnings.{prefix_trans}
use Rattle.shared_store.specs.Keepers.{HasLeft}
use Rattle.shared_store.specs.Parts.{StandsWithin}
use Rattle.export.proofs.export.Export.close.Goals as goal

pub returns-clause-left : goal.returns-clause-left
returns-clause-left g c = λ sure.
    let met = c.meet_all-mark.ensures in let history = c.meet_all-mark.new.pass.history in
    let disk = c.into_disk.ensures ∙ ap (λ (k : KeeperState g.row.D.Denot). k.disk) (c.close-keeper.ensures.keeper ∙ met.keeper) in record {
      passed = subst (λ (d : g.row.D.Denot). HasLeft g.B.ImageName.start (g.D.Disk.state d) g.B.BoardName.opening g.B.ImageName.image history) (sym disk) (met.passed sure);
      left = λ content left.
          subst (λ (n : ℕ). StandsWithin g.B.BoardName.opening g.B.ImageName.image history n content) (sym met.durable)
          (met.left sure content (subst (λ (d : g.row.D.Denot). MayLeave (g.D.Disk.state d) content) disk left));
    }

pub returns-clause-stored : goal.returns-clause-stored
returns-clause-stored g c =
    let met = c.meet_all-mark.ensures in
    let looked : c.meet_all-mark.new.pass.durable ≡ c.look_durable-durable.result = met.durable ∙ ap (λ pass. pass.durable) c.look_durable-durable.ensures.pass in (
      λ stored. omega (arith, leb-true c.meet_all-mark.result c.look_durable-durable.result stored, met.mark, looked),
      λ covered. le-leb c.meet_all-mark.result c.look_durable-durable.result (omega (arith, met.mark, looked, covered)),
    )

pub returns-clause-knew : goal.returns-clause-knew
returns-clause-knew g c =
    let met = c.meet_all-mark.new.pass.history in
    subst (λ (p : PassState). IsPrefix p.history met) (ap (λ (l : LastState). l.pass) c.last.view_is)
    (prefix_trans c.last.inside.pass.history c.look_durable-durable.new.pass.history met c.look_durable-durable.ensures.seen c.meet_all-mark.ensures.knew)

pub returns-clause-durable : goal.returns-clause-durable
returns-clause-durable g c =
    let entered : c.last.inside.pass.durable ≡ c.args.last.pass.durable = ap (λ (l : LastState). l.pass.durable) c.last.view_is in
    let looked = ap (λ (p : PassState). p.durable) c.look_durable-durable.ensures.pass in let known = c.look_durable-durable.ensures.known in let met = c.meet_all-mark.ensures.durable in
    omega (arith, entered, looked, known, met)

pub returns-clause-own : goal.returns-clause-own
returns-clause-own g c =
    let entered : c.last.inside.pass.own ≡ c.args.last.pass.own = ap (λ (l : LastState). l.pass.own) c.last.view_is in
    c.meet_all-mark.ensures.own ∙ (ap (λ (p : PassState). p.own) c.look_durable-durable.ensures.pass ∙ entered)

pub returns-clause-honest : goal.returns-clause-honest
returns-clause-honest g c = λ sure.
    let disk = c.into_disk.ensures ∙ ap (λ (k : KeeperState g.row.D.Denot). k.disk) (c.close-keeper.ensures.keeper ∙ c.meet_all-mark.ensures.keeper) in
    subst g.D.Disk.honest (sym disk) (c.meet_all-mark.ensures.honest sure)

pub returns-clause-log : goal.returns-clause-log
returns-clause-log g c = λ logs.
    let (durable, log, left) = c.close-keeper.ensures.log logs in
    let met = c.meet_all-mark.ensures in let history = c.meet_all-mark.new.pass.history in let opening = g.B.BoardName.opening in let image = g.B.ImageName.image in let start = g.B.ImageName.start in let state = g.D.Disk.state in
    let disk = c.into_disk.ensures ∙ ap (λ (k : KeeperState g.row.D.Denot). k.disk) c.close-keeper.ensures.keeper in
    let same = ap (λ (k : KeeperState g.row.D.Denot). k.disk) met.keeper in record {
      durable = durable;
      log = subst (λ (r : RosterState). IsOneLog g.T.Trust.trusted g.T.Trust.mode image history durable r) (ap (λ (l : LastState). l.roster) c.last.view_is)
          (subst (λ (i : Image). IsOneLog g.T.Trust.trusted g.T.Trust.mode i history durable c.last.inside.roster) (c.mode-mode.ensures.log logs).image_is
          (subst (λ (h : List Change). IsOneLog g.T.Trust.trusted g.T.Trust.mode g.T.Trust.image h durable c.last.inside.roster) (sym met.history) log));
      left = λ sure. record {
        passed = subst (λ (d : g.row.D.Denot). HasLeft start (state d) opening image history) (sym (disk ∙ same)) (met.passed sure);
        left = λ content leaves.
            subst (λ (h : List Change). StandsWithin opening image h (opening + durable) content) (sym met.history)
            (left sure content (subst (λ (d : g.row.D.Denot). MayLeave (state d) content) disk leaves));
      };
    }
