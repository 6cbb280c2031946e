use Rattle.std.proofs.Common.{inl, inr, ◌<◌, ◌+◌, ◌/◌, ◌∙◌, ap, refl, sym, subst, ℕ, List, [], length, get_or, arith}
use Rattle.order_book.specs.Reading.{KeepsOrReads}
use Rattle.order_book.proofs.CacheKeepsReads.{each_filled}
use Rattle.order_book.proofs.KeepingBlocks.{all_kept_seen, more_kept}
use Rattle.order_book.proofs.CacheShowsImage.{chunk_at}
use Rattle.shared_cache.specs.Cache.{CacheState}
use Rattle.order_book.proofs.reading.keep_blocks.Goals as goal

pub loop-offset-preserved : goal.loop-offset-preserved
loop-offset-preserved c =
    let old = c.loop-offset.invariant in
    let kept = c.keep_block.ensures in
    let bytes = c.args.bytes.now in
    let count = c.as_chunks.ensures.front_len in
    let below : c.loop-offset.offset < length bytes / 4096 = omega (arith, c.loop-offset-test.true, count) in
    let here = ap (λ (list : List (List ℕ)). get_or list c.loop-offset.offset []) c.as_chunks.ensures.front ∙ chunk_at 4096 (length bytes / 4096) bytes c.loop-offset.offset [] below in
    record {
      states = kept.states ∙ old.states;
      dirty = kept.dirty ∙ old.dirty;
      frames = kept.frames ∙ old.frames;
      each = elim kept.view [
        | inl same ↦ subst (λ (cache : CacheState). (block : ℕ) → KeepsOrReads c.args.first bytes c.args.cache.now cache block) (sym same) old.each
        | inr shows ↦ each_filled c.args.first c.loop-offset.offset bytes _ c.args.cache.now c.loop-offset.cache c.keep_block.new.cache (omega (arith, below)) here old.dirty old.each shows
      ];
      kept = more_kept c.args.first bytes c.loop-offset.offset (c.loop-offset.offset + 1) c.args.cache.now c.loop-offset.cache c.keep_block.new.cache _ (omega arith) here old.kept (kept.all c.in-All.is);
      begun = λ early. absurd (omega (arith, early, c.loop-offset.auto.offset));
    }

pub loop-offset-init : goal.loop-offset-init
loop-offset-init c = record {
  states = refl;
  dirty = refl;
  frames = refl;
  each = λ block. inl refl;
  kept = sym (all_kept_seen c.args.first c.args.bytes.now c.args.from c.args.cache.now c.requires.there);
  begun = λ early. refl;
}
