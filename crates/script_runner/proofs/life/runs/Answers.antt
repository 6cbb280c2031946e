use Rattle.std.proofs.Common.{◌∙◌, ap, refl}
use Rattle.std.proofs.lemmas.Result.{IfOk-from_err}
use Rattle.device_image.specs.Keeper.{KeeperState}
use Rattle.script_runner.proofs.life.runs.Goals as goal

pub loop-block-preserved : goal.loop-block-preserved
loop-block-preserved g c =
    let i = c.loop-block.invariant in
    let new = c.first_byte.new.keeper in
    record {
      same = ◌∙◌ {b = record c.loop-block.keeper { disk = new.disk }} c.in_ok-byte.ensures.ok (ap (λ (keeper : KeeperState g.row.D.Denot). record keeper { disk = new.disk }) i.same);
      honest = (λ is. i.honest.0 (c.first_byte.ensures.honest.0 is), λ is. c.first_byte.ensures.honest.1 (i.honest.1 is));
      held = λ is image holds. c.in_ok-byte.ensures.held (i.honest.1 is) image (i.held is image holds);
      left = λ is content may. i.left is content (c.first_byte.ensures.left (i.honest.1 is) content may);
    }

pub loop-block-init : goal.loop-block-init
loop-block-init g c = record { same = refl; honest = (λ is. is, λ is. is); held = λ is image holds. holds; left = λ is content may. may }

pub returns-in_err-map : goal.returns-in_err-map
returns-in_err-map g c =
    let none = c.from_residual.ensures.0 in
    record {
      ok = IfOk-from_err c.from_residual.result _ none;
      honest = (λ is. is, λ is. is);
      held = λ is image holds. IfOk-from_err c.from_residual.result _ none;
      left = λ is content may. may;
    }

pub returns-in_err-byte : goal.returns-in_err-byte
returns-in_err-byte g c =
    let i = c.loop-block.invariant in
    let none = c.from_residual-in_err-byte.ensures.0 in
    record {
      ok = IfOk-from_err c.from_residual-in_err-byte.result _ none;
      honest = (λ is. i.honest.0 (c.first_byte.ensures.honest.0 is), λ is. c.first_byte.ensures.honest.1 (i.honest.1 is));
      held = λ is image holds. IfOk-from_err c.from_residual-in_err-byte.result _ none;
      left = λ is content may. i.left is content (c.first_byte.ensures.left (i.honest.1 is) content may);
    }

pub returns-in_err-add_block : goal.returns-in_err-add_block
returns-in_err-add_block g c =
    let i = c.loop-block.invariant in
    let none = c.from_residual-in_err-add_block.ensures.0 in
    record {
      ok = IfOk-from_err c.from_residual-in_err-add_block.result _ none;
      honest = (λ is. i.honest.0 (c.first_byte.ensures.honest.0 is), λ is. c.first_byte.ensures.honest.1 (i.honest.1 is));
      held = λ is image holds. IfOk-from_err c.from_residual-in_err-add_block.result _ none;
      left = λ is content may. i.left is content (c.first_byte.ensures.left (i.honest.1 is) content may);
    }

pub returns : goal.returns
returns g c =
    let i = c.loop-block.invariant in
    record { ok = i.same; honest = i.honest; held = i.held; left = i.left }
