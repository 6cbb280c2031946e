use Rattle.std.proofs.Common.{⊎_elim, ◌∙◌, sym, arith}
use Rattle.regions.specs.Layout.{areas_in}
use Rattle.regions.specs.laws.Ring.{behind_is}
use Rattle.regions.proofs.regions.Regions.area_after.Goals.{then-at-areas, else-at-areas}
use Rattle.regions.proofs.regions.Regions.area_after.Goals as goal

pub returns-clause-area : goal.returns-clause-area
returns-clause-area c =
    let place = behind_is (areas_in c.args.self.now.geometry) c.args.places c.args.area c.requires.area c.requires.places in
    let many = c.areas-areas.ensures in
    elim c.if-at-areas.branch [
      | then-at-areas w ↦ ⊎_elim
          (λ on. w.result-is ∙ sym on.1)
          (λ over. let less = w.if-at-areas.true in absurd (omega (arith, less, many, over.0)))
          place
      | else-at-areas w ↦ ⊎_elim
          (λ on. let more = w.if-at-areas.false in absurd (omega (arith, more, many, on.0)))
          (λ over. let is = w.result-is in omega (arith, is, many, over.0, over.1))
          place
    ]
