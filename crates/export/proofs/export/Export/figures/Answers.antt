use Rattle.std.proofs.Common.{subst}
use mathlib.Core.List.{IsPrefix}
use Rattle.export.specs.Clients.{LastState}
use Rattle.marks.specs.laws.Beginnings.{prefix_trans}
use Rattle.export.proofs.export.Export.figures.Goals as goal

pub returns-clause-knew : goal.returns-clause-knew
returns-clause-knew g c =
    let after = c.look_accepted-accepted.new.pass.history in
    subst (λ (l : LastState). IsPrefix l.pass.history after) c.last.view_is
    (prefix_trans c.last.inside.pass.history c.look_durable-durable.new.pass.history after c.look_durable-durable.ensures.seen c.look_accepted-accepted.ensures.seen)
