use Rattle.std.proofs.Common.{Bool, sym, subst}
use Rattle.std.specs.Prelude.{IfOk}
use Rattle.checkpoint.specs.laws.FirstSync.{each_left}
use Rattle.script_runner.specs.inner.Life.{IsOpened}
use Rattle.script_runner.proofs.Lives.{opened_of, upgraded_of}
use Rattle.script_runner.proofs.life.keeper_of.Goals as goal

pub returns-then-upgrades-clause-opened : goal.returns-then-upgrades-clause-opened
returns-then-upgrades-clause-opened g c = λ honest.
    let (found, opening, upgrade) = c.upgrade.ensures.steps.found honest in
    subst (λ (upgrades : Bool). IfOk c.upgrade.result (λ keeper. IsOpened (g.D.Disk.state c.args.disk) upgrades keeper (g.D.Disk.state keeper.disk))) (sym c.if-upgrades.true)
    (upgraded_of (g.D.Disk.state c.args.disk) g.D.Disk.state c.upgrade.result found upgrade.fixed upgrade.outcome)

pub returns-then-upgrades-clause-left : goal.returns-then-upgrades-clause-left
returns-then-upgrades-clause-left g c = λ honest.
    let (found, opening, upgrade) = c.upgrade.ensures.steps.found honest in
    (found, upgrade.fixed, each_left (g.D.Disk.state c.args.disk) g.D.Disk.state found upgrade.fixed c.upgrade.result upgrade.crash)

pub returns-clause-opened : goal.returns-clause-opened
returns-clause-opened g c = λ honest.
    let (found, opening) = c.open.ensures.found honest in
    opened_of (g.D.Disk.state c.args.disk) g.D.Disk.state c.args.upgrades c.open.result found opening.fixed opening.outcome

pub returns-clause-left : goal.returns-clause-left
returns-clause-left g c = λ honest.
    let (found, opening) = c.open.ensures.found honest in
    (found, opening.fixed, each_left (g.D.Disk.state c.args.disk) g.D.Disk.state found opening.fixed c.open.result opening.crash)
