use Rattle.std.proofs.Common.{◌≡◌, ◌+◌, ◌*◌, ◌-◌, ◌≤◌, ◌<◌, List, [], ◌∷◌, ◌++◌, ℕ, sym, ◌∙◌, ap, arith}
use Rattle.std.specs.Global.{Vec}
use Rattle.alloc_map.specs.Codes.{state_at}
use Rattle.nbd_wire.specs.declared.message.Run.{Run}
use Rattle.export_model.specs.Shown.{read_status_of, runs_from}
use Rattle.request_core.proofs.RunsGrow.{block_more, one_block, run_of}
use Rattle.request_core.proofs.runs.runs_of_blocks.Goals as goal
use Rattle.request_core.proofs.runs.runs_of_blocks.Goals.{then-status-last, else-status-last+in_ok-push}

pub loop-block-init : goal.loop-block-init
loop-block-init g c =
    let status : ℕ → ℕ = λ b. read_status_of (state_at c.args.order.now.cache.states b) in
    let first = c.args.first in
    let one : 1 ≡ first + 1 - first = omega arith in (
      omega arith,
      omega arith,
      ap (λ (l : List Run). l ++ run_of 4096 c.read_status.result ∷ []) c.new-runs.ensures.items
          ∙ ap (λ (s : ℕ). run_of 4096 s ∷ []) (c.read_status.ensures ∙ ap read_status_of c.state.ensures)
          ∙ one_block status first
          ∙ ap (runs_from status first) one,
    )

pub loop-block-preserved : goal.loop-block-preserved
loop-block-preserved g c = elim c.if-status-last.branch [
  | then-status-last w ↦ (
    omega (arith, before),
    let same = ap (λ (run : Run). run.length) w.last-is in omega (arith, before, most, same),
    ap (λ (l : List Run). l ++ c.if-status-last.last ∷ []) (ap items_of w.runs-is)
        ∙ ap (λ (run : Run). c.loop-block.runs.items ++ run ∷ []) w.last-is
        ∙ (block_more status first (c.loop-block.block - c.args.first) c.loop-block.runs.items c.loop-block.last c.loop-block.invariant.2).0 (sym status_is ∙ w.if-status-last.true)
        ∙ ap (runs_from status first) next,
  )
  | else-status-last+in_ok-push w ↦ (
    omega (arith, before),
    let same = ap (λ (run : Run). run.length) w.last-is in omega (arith, before, same),
    ap (λ (l : List Run). l ++ c.if-status-last.last ∷ []) (ap items_of w.runs-is ∙ w.in_ok-push.ensures.items)
        ∙ ap (λ (run : Run). (c.loop-block.runs.items ++ c.loop-block.last ∷ []) ++ run ∷ []) (w.last-is ∙ ap (run_of 4096) status_is)
        ∙ (block_more status first (c.loop-block.block - c.args.first) c.loop-block.runs.items c.loop-block.last c.loop-block.invariant.2).1 (λ same. w.if-status-last.false (status_is ∙ same))
        ∙ ap (runs_from status first) next,
  )
]
  where
    first : ℕ
    first = c.args.first

    status : ℕ → ℕ
    status = λ b. read_status_of (state_at c.args.order.now.cache.states b)

    before : c.args.first < c.loop-block.block
    before = c.loop-block.invariant.0

    most : c.loop-block.last.length ≤ 4096 * (c.loop-block.block - c.args.first)
    most = c.loop-block.invariant.1

    at : c.args.first + (c.loop-block.block - c.args.first) ≡ c.loop-block.block
    at = omega (arith, before)

    next : c.loop-block.block - c.args.first + 1 ≡ c.loop-block.block + 1 - c.args.first
    next = omega (arith, before)

    status_is : c.read_status-status.result ≡ status (c.args.first + (c.loop-block.block - c.args.first))
    status_is = c.read_status-status.ensures ∙ ap read_status_of c.state-in-loop-block.ensures ∙ sym (ap status at)

    items_of : Vec Run → List Run
    items_of runs = runs.items
