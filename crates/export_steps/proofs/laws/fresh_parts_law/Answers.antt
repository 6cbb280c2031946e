use Rattle.export_steps.specs.Life.{Trusts}
use Rattle.export_steps.proofs.Fresh.{fresh_parts}
use Rattle.export_steps.proofs.Runs.{trusts_true}
use Rattle.export_steps.proofs.laws.fresh_parts_law.Goals as goal

pub returns : goal.returns
returns g c = λ trusted keeper found states frames connections flags mode recovered blocks fits keeps shows sure.
    fresh_parts trusted keeper found states (g.D.Disk.faults keeper.disk) frames connections flags mode (Trusts trusted (g.D.Disk.honest keeper.disk)) (g.D.Disk.state keeper.disk) (c.keeper_laws.ensures.left keeper found)
    blocks recovered.works recovered.phase recovered.used recovered.base recovered.turned recovered.lefts recovered.remembers fits
    (λ honest. c.keeper_laws.ensures.empty keeper found keeper.count (keeps honest) recovered.phase recovered.used) shows (λ is. trusts_true trusted (g.D.Disk.honest keeper.disk) is (sure is))
