use Rattle.std.proofs.Common.{◌≡◌, ◌+◌, ◌-◌, ◌∙◌, ap, arith, sym, subst, ℕ, drop, get_or, set, take, length, ◌++◌, ◌≤◌, ◌<◌}
use Rattle.std.proofs.lemmas.List.{get_or_default}
use Rattle.nbd_wire.specs.declared.message.Run.{Run}
use Rattle.export_model.specs.Shown.{cut_behind}
use Rattle.request_core.proofs.Cuts.{cut_ends, cut_goes, cut_stops}
use Rattle.request_core.proofs.runs.cut.Goals as goal

pub returns-then-left-size : goal.returns-then-left-size
returns-then-left-size c =
    let is = c.loop-at.invariant in
    let size = is.1 in
    let runs = c.loop-at.runs.items in
    let at = c.loop-at.at in
    let d = c.index.result.now in
    let within : at < length runs = omega (arith, size, c.loop-at-test.true) in
    let written = c.index_mut-then-left-size in
    let this : written.result.now ≡ get_or runs at d = written.ensures.value ∙ get_or_default runs at written.result.now d within in
    c.truncate.ensures.items
    ∙ ap (λ (run : Run). take (at + 1) (set runs at (record { length = c.loop-at.left; status = run.status }))) this
    ∙ cut_stops c.args.count c.loop-at.left runs at d within (subst (λ (run : Run). c.loop-at.left ≤ run.length) c.index.ensures c.if-left-size.true) is.3
    ∙ ap (cut_behind c.args.count) is.2

pub loop-at-preserved : goal.loop-at-preserved
loop-at-preserved c =
    let is = c.loop-at.invariant in
    let size = is.1 in
    let d = c.index.result.now in (
      omega (arith, size, c.loop-at-test.true),
      size,
      is.2,
      cut_goes c.args.count c.loop-at.left c.loop-at.runs.items c.loop-at.at d (omega (arith, size, c.loop-at-test.true))
          (let less = c.if-left-size.false in let same = ap (λ (run : Run). run.length) c.index.ensures in omega (arith, less, same)) is.3
          ∙ ap (λ (n : ℕ). take (c.loop-at.at + 1) c.loop-at.runs.items ++ cut_behind (c.loop-at.left - n) (drop (c.loop-at.at + 1) c.loop-at.runs.items)) (sym (ap (λ (run : Run). run.length) c.index.ensures)),
    )

pub returns : goal.returns
returns c =
    let is = c.loop-at.invariant in
    let size = is.1 in
    cut_ends c.args.count c.loop-at.left c.loop-at.runs.items c.loop-at.at (omega (arith, size, c.loop-at-test.false)) is.3
    ∙ ap (cut_behind c.args.count) is.2
