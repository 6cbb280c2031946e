use Rattle.std.proofs.Common.{ℕ, sym, subst}
use Rattle.latest_writes.specs.Ranges.{AreLastTouches}
use Rattle.device_image.proofs.MapAfterArea.{laid_of}
use Rattle.device_image.proofs.plan.map_after_area.Goals as goal

pub returns : goal.returns
returns c =
    let area = c.args.area.now in
    laid_of _ area.from area.touched c.in_ok-touches.touches.ranges c.args.map.now
    (subst (λ (blocks : ℕ). AreLastTouches area.from blocks area.touched c.in_ok-touches.touches.ranges) (sym c.requires.count) c.in_ok-touches.ensures.last) c.apply_touches.ensures
