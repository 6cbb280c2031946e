use Rattle.std.proofs.Common.{◌≡◌, length, sym, ◌∙◌, ap, arith}
use Rattle.std.proofs.lemmas.Bool.Decides.{nat_tests}
use Rattle.device_image.specs.Keeper.{KeeperState}
use Rattle.regions.specs.Layout.{areas_in}
use Rattle.checkpoint.specs.Keeper.{plans_of}
use Rattle.checkpoint.proofs.HeaderChangeRemembers.{turned-length}
use Rattle.checkpoint.proofs.keeper.Keeper.has_spare_area.Goals as goal

pub returns-clause-spare : goal.returns-clause-spare
returns-clause-spare g c =
    let inside = c.self.inside in
    let turned : length c.args.self.now.turned ≡ inside.header.before_last =
    ap (λ (k : KeeperState g.row.D.Denot). length k.turned) (sym c.self.view_is) ∙ turned-length (plans_of inside.plan inside.waiting.items) ∙ sym c.self.invariant.5 in
    let areas : c.areas.result ≡ areas_in c.args.self.now.geometry = c.areas.ensures ∙ ap (λ (k : KeeperState g.row.D.Denot). areas_in k.geometry) c.self.view_is in (
      λ less. grind (arith, nat_tests, less, turned, areas),
      λ less. grind (arith, nat_tests, less, turned, areas),
    )
