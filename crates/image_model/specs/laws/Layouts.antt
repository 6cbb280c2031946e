-- What holds of the areas of every layout.
use Rattle.std.proofs.Common.{◌≡◌, ℕ, ◌*◌, ◌≤◌, ◌<◌, ◌%◌, arith}
use Rattle.image_model.specs.Layout.{area_size_of, areas_of}
use Rattle.image_model.specs.declared.layout.Layout.{Layout}
use Rattle.image_model.specs.declared.layout.Layout.TheVariants.{One, Two}

pub areas_least : (layout : Layout) → 2 ≤ areas_of layout
areas_least One = omega arith
areas_least Two = omega arith

pub areas_most : (layout : Layout) → areas_of layout ≤ 4
areas_most One = omega arith
areas_most Two = omega arith

pub areas_some : (layout : Layout) → 0 < areas_of layout
areas_some One = omega arith
areas_some Two = omega arith

-- together they have twice the bytes
pub areas_fill : (layout : Layout) (area : ℕ) → area % 8192 ≡ 0 → areas_of layout * area_size_of layout area ≡ 2 * area
areas_fill One area whole = omega arith
areas_fill Two area whole = omega (arith, whole)
