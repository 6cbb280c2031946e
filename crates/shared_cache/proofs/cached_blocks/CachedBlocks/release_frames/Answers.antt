use Rattle.std.proofs.Common.{length, ap, ◌∙◌, arith}
use Rattle.shared_cache.specs.CachedBlocks.{CachedState}
use Rattle.shared_cache.specs.laws.Ranges.{block_read, gone_step, none_covered}
use Rattle.shared_cache.proofs.cached_blocks.CachedBlocks.release_frames.Goals as goal

pub loop-frame-preserved : goal.loop-frame-preserved
loop-frame-preserved c = record {
  left = c.release_inside.ensures.left ∙ c.loop-frame.invariant.left;
  gone =
      gone_step c.loop-frame.self c.release_inside.new.self c.args.first c.args.count c.loop-frame.frame c.index-block.result.now c.release_inside.ensures.kept
      c.release_inside.ensures.held_left c.loop-frame.invariant.gone
      (block_read _ c.loop-frame.self c.loop-frame.frame _ c.self-in-loop-frame.view_is
      (let size = c.loop-frame.invariant.held.size in
      let kept = ap length c.loop-frame.invariant.kept in
      let first = c.requires.held.size in
      let seen = ap (λ (held : CachedState). length held.pool.bytes) c.self.view_is in
      let end = c.frames-frame-end.ensures.frames in
      omega (arith, size, kept, first, seen, end, c.loop-frame-test.true))
      c.index-block.ensures)
      c.release_inside.ensures.missing;
  kept = c.release_inside.ensures.kept ∙ c.loop-frame.invariant.kept;
  spare = omega (arith, c.release_inside.ensures.spare, c.loop-frame.invariant.spare);
  held = c.release_inside.ensures.held;
}

pub returns-clause-blocks : goal.returns-clause-blocks
returns-clause-blocks c =
    none_covered c.args.first c.args.count c.loop-frame.self c.loop-frame.invariant.held
    (λ frame below inside.
    let size = c.loop-frame.invariant.held.size in
    let kept = ap length c.loop-frame.invariant.kept in
    let first = c.requires.held.size in
    let seen = ap (λ (held : CachedState). length held.pool.bytes) c.self.view_is in
    let end = c.frames-frame-end.ensures.frames in
    let done = c.loop-frame-test.false in
    c.loop-frame.invariant.gone frame (omega (arith, below, size, kept, first, seen, end, done)) inside)
    ∙ c.loop-frame.invariant.left
