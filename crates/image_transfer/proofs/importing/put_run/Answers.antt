use Rattle.std.proofs.Common.{◌≡◌, ◌+◌, ◌*◌, ◌-◌, ◌<◌, ◌≤◌, ℕ, List, ap, subst, sym, arith}
use Rattle.disk_model.specs.laws.Moments.{weakens}
use Rattle.checkpoint.specs.laws.Closed.{closed_torn, closed_written}
use Rattle.image_model.specs.declared.command.Kind.{Kind}
use Rattle.image_model.specs.declared.geometry.Geometry.{Geometry}
use Rattle.image_transfer.specs.inner.Import.{IsFilled}
use Rattle.image_transfer.proofs.Filling.{part_at, run_filled}
use Rattle.regions.specs.Layout.{block_at}
use Rattle.image_transfer.proofs.importing.put_run.Goals as goal

pub returns-clause-any_moment : goal.returns-clause-any_moment
returns-clause-any_moment g c honest closed =
    weakens (c.write_blocks.ensures.any_moment honest) (λ content left. closed_torn _ closed _ _ (omega arith) (λ within. omega (arith, within.0)) content left)

pub returns-clause-filled : goal.returns-clause-filled
returns-clause-filled g c honest closed byte are some filled =
    let geometry = c.args.geometry in
    let place_is = ap (λ (size : Geometry). block_at size (c.args.first + c.args.from)) c.from_geometry.ensures in
    let done = run_filled byte geometry c.args.first c.args.from c.args.to c.args.bytes.now _ are c.requires.whole c.requires.order some
    (λ k below. part_at c.args.bytes.now (4096 * c.args.from) _ k (omega (arith, below))) (omega arith)
    (g.D.Disk.state c.args.disk.now) (g.D.Disk.state c.write_blocks.new.disk) closed c.args.map.now (omega (arith, c.requires.inside, c.requires.whole, c.requires.count)) _ (omega (arith, place_is))
    (c.in_ok-write_blocks.ensures.written honest) filled in
    subst (λ (states : List Kind). IsFilled byte geometry (g.D.Disk.state c.write_blocks.new.disk).seen states (c.args.first + c.args.to)) (sym c.set_range.ensures) done
