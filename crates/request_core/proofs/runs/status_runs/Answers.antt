use Rattle.std.proofs.Common.{◌≡◌, ◌+◌, ◌*◌, ◌-◌, ◌/◌, ◌%◌, List, [], ◌∷◌, ◌++◌, drop, get_or, map, take, ℕ, sym, ◌∙◌, ap, subst, arith}
use Rattle.alloc_map.specs.Codes.{state_at}
use Rattle.alloc_map.specs.Runs.{AreRuns}
use Rattle.alloc_map.specs.declared.run.Run.{Run as Stretch}
use Rattle.image_model.specs.Edit.{blocks_met}
use Rattle.image_model.specs.declared.command.Kind.{Kind}
use Rattle.image_model.specs.declared.command.Kind.TheVariants.{Data}
use Rattle.nbd_wire.specs.declared.message.Run.{Run}
use Rattle.export_model.specs.Shown.{cut_behind, cut_front, cut_to, runs_from, runs_met, status_of}
use Rattle.request_core.proofs.Cuts.{turn_ends, turn_goes, turn_stops}
use Rattle.request_core.proofs.RunsGrow.{run_of}
use Rattle.request_core.proofs.Stretches.{as_run, first_runs, one_some, one_within, runs_some, runs_within}
use Rattle.request_core.proofs.runs.status_runs.Goals as goal

-- the stretches, cut, are the runs that are asked for
all_cut : (states : List Kind) (offset count limit blocks : ℕ) (found : List Stretch) → blocks ≡ blocks_met offset count
    → AreRuns states (offset / 4096) (offset / 4096 + blocks) limit found
    → cut_behind count (cut_front (offset % 4096) (map as_run found)) ≡ cut_to offset count (take limit (runs_met (λ block. status_of (state_at states block)) offset count))
all_cut states offset count limit blocks found size are =
    let all : offset / 4096 + blocks - offset / 4096 ≡ blocks_met offset count = omega (arith, size) in
    ap (λ (l : List Run). cut_behind count (cut_front (offset % 4096) l))
    (first_runs states (offset / 4096) (offset / 4096 + blocks) limit found are
    ∙ ap (λ (n : ℕ). take limit (runs_from (λ block. status_of (state_at states block)) (offset / 4096) n)) all)

pub overflow_mul-size : goal.overflow_mul-size
overflow_mul-size g c =
    let few = c.requires.few in
    let inside = c.requires.inside in
    let size = c.div_ceil-blocks.ensures in
    let found = subst (AreRuns c.args.order.now.cache.states (c.args.offset / 4096) (c.args.offset / 4096 + c.div_ceil-blocks.result) c.args.limit) (sym c.deref-run-items.ensures.value) c.in_ok-found.ensures in
    let most = one_within (c.args.offset / 4096 + c.div_ceil-blocks.result - c.args.offset / 4096) c.deref-run-items.result.now c.loop-run.run-index (record { blocks = 0; kind = Data }) (runs_within _ _ _ _ _ found) c.loop-run-test.true in
    omega (arith, few, inside, most, size)

pub overflow_sub-size : goal.overflow_sub-size
overflow_sub-size g c =
    let found = subst (AreRuns c.args.order.now.cache.states (c.args.offset / 4096) (c.args.offset / 4096 + c.div_ceil-blocks.result) c.args.limit) (sym c.deref-run-items.ensures.value) c.in_ok-found.ensures in
    let some = one_some c.deref-run-items.result.now c.loop-run.run-index (record { blocks = 0; kind = Data }) (runs_some _ _ _ _ _ found) c.loop-run-test.true in
    let less = c.loop-run.invariant.0 in
    omega (arith, some, less)

pub returns-then-left-size : goal.returns-then-left-size
returns-then-left-size g c =
    let found = c.deref-run-items.result.now in
    let are = subst (AreRuns c.args.order.now.cache.states (c.args.offset / 4096) (c.args.offset / 4096 + c.div_ceil-blocks.result) c.args.limit) (sym c.deref-run-items.ensures.value) c.in_ok-found.ensures in
    let size : c.div_ceil-blocks.result ≡ blocks_met c.args.offset c.args.count = let is = c.div_ceil-blocks.ensures in omega (arith, is) in
    c.in_ok-push.ensures.items
    ∙ ap (λ (n : ℕ). c.loop-run.runs.items ++ run_of c.loop-run.left n ∷ []) c.status-status.ensures
    ∙ turn_stops found c.loop-run.run-index (record { blocks = 0; kind = Data }) c.loop-run.skip c.loop-run.left c.loop-run.runs.items
    (cut_behind c.args.count (cut_front (c.args.offset % 4096) (map as_run found))) c.loop-run-test.true c.loop-run.invariant.2 c.if-left-size.true
    ∙ all_cut c.args.order.now.cache.states c.args.offset c.args.count c.args.limit c.div_ceil-blocks.result found size are

pub loop-run-preserved : goal.loop-run-preserved
loop-run-preserved g c =
    let found = c.deref-run-items.result.now in
    let this = get_or found c.loop-run.run-index (record { blocks = 0; kind = Data }) in
    let most = c.loop-run.invariant.1 in (
      omega arith,
      omega (arith, most),
      ap (λ (l : List Run). l ++ cut_behind (c.loop-run.left - (this.blocks * 4096 - c.loop-run.skip)) (cut_front 0 (map as_run (drop (c.loop-run.run-index + 1) found))))
          (c.in_ok-push-2.ensures.items ∙ ap (λ (n : ℕ). c.loop-run.runs.items ++ run_of (this.blocks * 4096 - c.loop-run.skip) n ∷ []) c.status-status.ensures)
          ∙ turn_goes found c.loop-run.run-index (record { blocks = 0; kind = Data }) c.loop-run.skip c.loop-run.left c.loop-run.runs.items
          (cut_behind c.args.count (cut_front (c.args.offset % 4096) (map as_run found))) c.loop-run-test.true c.loop-run.invariant.2 c.if-left-size.false,
    )

pub returns : goal.returns
returns g c =
    let found = c.deref-run-items.result.now in
    let are = subst (AreRuns c.args.order.now.cache.states (c.args.offset / 4096) (c.args.offset / 4096 + c.div_ceil-blocks.result) c.args.limit) (sym c.deref-run-items.ensures.value) c.in_ok-found.ensures in
    let size : c.div_ceil-blocks.result ≡ blocks_met c.args.offset c.args.count = let is = c.div_ceil-blocks.ensures in omega (arith, is) in
    let past = c.loop-run-test.false in
    turn_ends found c.loop-run.run-index c.loop-run.skip c.loop-run.left c.loop-run.runs.items
    (cut_behind c.args.count (cut_front (c.args.offset % 4096) (map as_run found))) (omega (arith, past)) c.loop-run.invariant.2
    ∙ all_cut c.args.order.now.cache.states c.args.offset c.args.count c.args.limit c.div_ceil-blocks.result found size are
