use Rattle.std.proofs.Common.{ℕ, ◌+◌, ◌*◌, ◌≤◌, sym, subst, arith}
use Rattle.image_model.specs.declared.side.Side.TheVariants as Side
use Rattle.regions.specs.Layout.{area_size, map_at}
use Rattle.regions.specs.laws.Ring.{area_high}
use Rattle.regions.proofs.regions.Regions.area_from.Goals as goal

pub returns-clause-inside : goal.returns-clause-inside
returns-clause-inside c =
    let geometry = c.args.self.now.geometry in
    subst (λ (size : ℕ). 8192 + size * c.args.area + area_size geometry ≤ map_at geometry Side.Zero) (sym c.area_size.ensures)
    (let high = area_high geometry c.args.area c.requires in omega (arith, high))
