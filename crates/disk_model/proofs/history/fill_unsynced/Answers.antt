use Rattle.std.proofs.Common.{◌≡◌, ℕ, ◌<◌, length, get_or, replicate, arith}
use Rattle.std.proofs.lemmas.List.{get_or-replicate, length-replicate}
use Rattle.disk_model.proofs.Unwinding.{unwinds_more, filled_more}
use Rattle.disk_model.proofs.history.fill_unsynced.Goals as goal

pub loop-write-preserved : goal.loop-write-preserved
loop-write-preserved c =
    let write = c.in-Some.write in
    let filling = replicate c.len.result c.args.byte in
    let size = length-replicate c.len.result c.args.byte in
    let count : length filling ≡ length write.before.items = omega (arith, size, c.len.ensures, write.before.ok.0) in
    let all_byte : (k : ℕ) → k < length filling → get_or filling k 0 ≡ c.args.byte = λ k below. get_or-replicate c.len.result k c.args.byte 0 (omega (arith, size)) in
    let so_far = c.loop-write.invariant in
    record {
      unwinds = unwinds_more _ c.pop_write.new.history.items write c.in-Some.ensures.newest _ _ _ c.fill.ensures count _ _ so_far.unwinds;
      filled = λ place unsynced. filled_more _ c.pop_write.new.history.items write c.in-Some.ensures.newest _ _ _ c.fill.ensures count _ all_byte so_far.unwinds.inside place (so_far.filled place unsynced);
    }
