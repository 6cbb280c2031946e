use Rattle.std.proofs.Common.{◌≡◌, ◌∙◌, ℕ, [], ap, arith, length, sym, true, vec_len}
use Rattle.std.proofs.lemmas.List.{length-replicate}
use Rattle.std.proofs.lemmas.Result.{IfOk-from_err}
use Rattle.marks.specs.Known.{new_pass}
use Rattle.nbd_wire.specs.declared.message.SessionFlags.{SessionFlags}
use Rattle.export_steps.specs.Bench.{new_bench}
use Rattle.script_runner.proofs.life.first_parts.Goals as goal

pub returns-in_err-board : goal.returns-in_err-board
returns-in_err-board g c =
    let none = c.from_residual.ensures.0 in
    record {
      order = IfOk-from_err c.from_residual.result _ none;
      image = λ image holds. IfOk-from_err c.from_residual.result _ none;
      bench = IfOk-from_err c.from_residual.result _ none;
      count = IfOk-from_err c.from_residual.result _ none;
    }

pub returns-in_err-order : goal.returns-in_err-order
returns-in_err-order g c =
    let none = c.from_residual-in_err-order.ensures.0 in
    record {
      order = IfOk-from_err c.from_residual-in_err-order.result _ none;
      image = λ image holds. IfOk-from_err c.from_residual-in_err-order.result _ none;
      bench = IfOk-from_err c.from_residual-in_err-order.result _ none;
      count = IfOk-from_err c.from_residual-in_err-order.result _ none;
    }

pub returns-in_err-bench : goal.returns-in_err-bench
returns-in_err-bench g c =
    let none = c.from_residual-in_err-bench.ensures.0 in
    record {
      order = IfOk-from_err c.from_residual-in_err-bench.result _ none;
      image = λ image holds. IfOk-from_err c.from_residual-in_err-bench.result _ none;
      bench = IfOk-from_err c.from_residual-in_err-bench.result _ none;
      count = IfOk-from_err c.from_residual-in_err-bench.result _ none;
    }

pub returns-clause-order : goal.returns-clause-order
returns-clause-order g c = c.in_ok-order.ensures.order

pub returns-clause-image : goal.returns-clause-image
returns-clause-image g c = c.in_ok-order.ensures.image

pub returns-clause-count : goal.returns-clause-count
returns-clause-count g c = c.in_ok-order.ensures.few

pub open-requires-clause-board : goal.open-requires-clause-board
open-requires-clause-board g c = c.requires.board

pub open-requires-clause-opening : goal.open-requires-clause-opening
open-requires-clause-opening g c = c.requires.named

pub fresh_order-requires-clause-frames : goal.fresh_order-requires-clause-frames
fresh_order-requires-clause-frames g c = c.args.setup.frames_few

pub fresh_order-requires-clause-named : goal.fresh_order-requires-clause-named
fresh_order-requires-clause-named g c = sym c.requires.opening ∙ c.requires.named

pub fresh_order-requires-clause-seat : goal.fresh_order-requires-clause-seat
fresh_order-requires-clause-seat g c = c.in_ok-board.ensures.order ∙ ap (λ (n : ℕ). record { history = []; accepted = n; base = n }) c.requires.opening

pub returns-clause-bench : goal.returns-clause-bench
returns-clause-bench g c =
    let made = c.in_ok-board.field-0.passes in
    let size = ap length c.in_ok-board.ensures.passes in
    let many : vec_len made ≡ 16 = omega (arith, made.ok.0, size, length-replicate 16 (new_pass c.args.blank.opening)) in
    let flags : SessionFlags = record { structured = true; context = true } in
    c.in_ok-bench.ensures ∙ ap (λ (n : ℕ). new_bench n flags c.args.setup.mode) many
