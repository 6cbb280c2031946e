use Rattle.std.proofs.Common.{◌≡◌, ◌∙◌, ℕ, [], ap, arith, length, sym, vec_len}
use Rattle.std.proofs.lemmas.List.{length-replicate}
use Rattle.std.proofs.lemmas.Result.{IfOk-from_err}
use Rattle.marks.specs.Known.{new_pass}
use Rattle.export_steps.specs.Bench.{new_connections}
use Rattle.nbdj_pipe.specs.Talk.{plain}
use Rattle.nbdj_pipe.proofs.session.fresh_parts.Goals as goal

pub returns-in_err-board : goal.returns-in_err-board
returns-in_err-board g c =
    let none = c.from_residual.ensures.0 in
    record {
      order = IfOk-from_err c.from_residual.result _ none;
      image = λ image holds. IfOk-from_err c.from_residual.result _ none;
      connections = IfOk-from_err c.from_residual.result _ none;
      few = IfOk-from_err c.from_residual.result _ none;
    }

pub returns-in_err-order : goal.returns-in_err-order
returns-in_err-order g c =
    let none = c.from_residual-in_err-order.ensures.0 in
    record {
      order = IfOk-from_err c.from_residual-in_err-order.result _ none;
      image = λ image holds. IfOk-from_err c.from_residual-in_err-order.result _ none;
      connections = IfOk-from_err c.from_residual-in_err-order.result _ none;
      few = IfOk-from_err c.from_residual-in_err-order.result _ none;
    }

pub returns-in_err-connections : goal.returns-in_err-connections
returns-in_err-connections g c =
    let none = c.from_residual-in_err-connections.ensures.0 in
    record {
      order = IfOk-from_err c.from_residual-in_err-connections.result _ none;
      image = λ image holds. IfOk-from_err c.from_residual-in_err-connections.result _ none;
      connections = IfOk-from_err c.from_residual-in_err-connections.result _ none;
      few = IfOk-from_err c.from_residual-in_err-connections.result _ none;
    }

pub returns-clause-order : goal.returns-clause-order
returns-clause-order g c = c.in_ok-order.ensures.order

pub returns-clause-image : goal.returns-clause-image
returns-clause-image g c = c.in_ok-order.ensures.image

pub returns-clause-few : goal.returns-clause-few
returns-clause-few g c = c.in_ok-order.ensures.few

pub open-requires-clause-board : goal.open-requires-clause-board
open-requires-clause-board g c = c.requires.board

pub open-requires-clause-opening : goal.open-requires-clause-opening
open-requires-clause-opening g c = c.requires.named

pub fresh_order-requires-clause-frames : goal.fresh_order-requires-clause-frames
fresh_order-requires-clause-frames g c = c.args.options.frames_few

pub fresh_order-requires-clause-named : goal.fresh_order-requires-clause-named
fresh_order-requires-clause-named g c = sym c.requires.opening ∙ c.requires.named

pub fresh_order-requires-clause-seat : goal.fresh_order-requires-clause-seat
fresh_order-requires-clause-seat g c = c.in_ok-board.ensures.order ∙ ap (λ (n : ℕ). record { history = []; accepted = n; base = n }) c.requires.opening

pub returns-clause-connections : goal.returns-clause-connections
returns-clause-connections g c =
    let made = c.in_ok-board.field-0.passes in
    let size = ap length c.in_ok-board.ensures.passes in
    let one : vec_len made ≡ 1 = omega (arith, made.ok.0, size, length-replicate 1 (new_pass c.args.blank.opening)) in
    c.in_ok-connections.ensures ∙ ap (λ (n : ℕ). new_connections n plain c.args.options.mode) one
