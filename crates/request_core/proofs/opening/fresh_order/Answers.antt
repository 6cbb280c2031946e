use Rattle.std.proofs.Common.{[]}
use Rattle.request_core.proofs.FreshOrderShows.{zero_outside}
use Rattle.request_core.proofs.opening.fresh_order.Goals as goal

pub returns-clause-image : goal.returns-clause-image
returns-clause-image g c = λ image holds.
    let keeper = c.args.keeper.now in
    c.new.ensures.image image (c.in_ok-map.ensures.kinds image [] [] holds)
    (zero_outside image (g.D.Disk.state keeper.disk).seen keeper.geometry keeper.memory.map holds.is_base)
