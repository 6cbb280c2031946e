use Rattle.std.proofs.Common.{◌/◌, ◌%◌, ◌≤◌, ◌<◌, List, get_or, length, sym, subst, arith}
use Rattle.alloc_map.specs.Codes.{state_at}
use Rattle.nbd_wire.specs.declared.message.Run.{Run}
use Rattle.export_model.specs.Shown.{read_status_of, runs_from}
use Rattle.request_core.proofs.Cuts.{long_enough, long_first}
use Rattle.request_core.proofs.Parts.{some_runs}
use Rattle.request_core.proofs.runs.read_runs.Goals as goal

pub cut-requires-clause-some : goal.cut-requires-clause-some
cut-requires-clause-some g c =
    let some = c.requires.some in
    let size = c.div_ceil-blocks.ensures in
    subst (λ (l : List Run). 0 < length l) (sym c.in_ok-runs.ensures)
    (some_runs (λ block. read_status_of (state_at c.args.order.now.cache.states block)) (c.args.offset / 4096) c.div_ceil-blocks.result (omega (arith, some, size)))

pub cut-requires-clause-within : goal.cut-requires-clause-within
cut-requires-clause-within g c =
    let some = c.requires.some in
    let size = c.div_ceil-blocks.ensures in
    subst (λ (l : List Run). c.args.offset % 4096 ≤ (get_or l 0 (record { length = 0; status = 0 })).length) (sym c.in_ok-runs.ensures)
    (long_enough (c.args.offset % 4096) (runs_from (λ block. read_status_of (state_at c.args.order.now.cache.states block)) (c.args.offset / 4096) c.div_ceil-blocks.result) (record { length = 0; status = 0 }) (omega arith)
    (long_first (λ block. read_status_of (state_at c.args.order.now.cache.states block)) (c.args.offset / 4096) c.div_ceil-blocks.result (omega (arith, some, size))))
