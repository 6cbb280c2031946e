use Rattle.std.proofs.Common.{[], refl}
use Rattle.std.proofs.lemmas.Result.{IfOk-from_err}
use Rattle.script_runner.proofs.Lives.{read_leaves}
use Rattle.script_runner.proofs.life.first_byte.Goals as goal

-- where nothing is read the keeper stays as it is
pub returns-then-ne : goal.returns-then-ne
returns-then-ne g c = record { ok = refl; honest = (λ is. is, λ is. is); held = λ is image holds. holds; left = λ is content may. may }

pub returns-in_err-read_base : goal.returns-in_err-read_base
returns-in_err-read_base g c =
    let disk = g.D.Disk in
    let old = c.args.keeper.now.disk in
    let new = c.read_base.new.self.disk in
    let none = c.from_residual.ensures.0 in
    record {
      ok = IfOk-from_err c.from_residual.result _ none;
      honest = c.read_base.ensures.honest;
      held = λ is image holds. IfOk-from_err c.from_residual.result _ none;
      left = λ is. read_leaves (disk.extent old) (disk.state old) (disk.state new) (g.met.D.Disk.sound old is) (c.read_base.ensures.only_read is).kept;
    }

pub returns : goal.returns
returns g c =
    let disk = g.D.Disk in
    let old = c.args.keeper.now.disk in
    let new = c.read_base.new.self.disk in
    record {
      ok = c.in_ok-read_base.ensures.ok;
      honest = c.read_base.ensures.honest;
      held = λ is image. c.in_ok-read_base.ensures.held is image [] [];
      left = λ is. read_leaves (disk.extent old) (disk.state old) (disk.state new) (g.met.D.Disk.sound old is) (c.read_base.ensures.only_read is).kept;
    }
