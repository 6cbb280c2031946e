use Rattle.std.proofs.Common.{◌≡◌, ◌≤◌, ℕ}
use Rattle.order_book.specs.Cached.{frames_of}
use Rattle.order_book.specs.Reading.{KeepsOrReads, with_all_kept}
use Rattle.order_book.proofs.reading.keep_blocks.Given as goal

abbrev pub invariant-loop-offset : goal.invariant-loop-offset
invariant-loop-offset l = record {
  states : l.cache.states ≡ l.fn.cache.states;
  dirty : l.cache.blocks.dirty ≡ l.fn.cache.blocks.dirty;
  frames : frames_of l.cache ≡ frames_of l.fn.cache;
  each : (block : ℕ) → KeepsOrReads l.first l.bytes l.fn.cache l.cache block;
  kept : l.cache ≡ with_all_kept l.first l.bytes l.offset l.fn.cache;
  begun : l.offset ≤ l.from → l.cache ≡ l.fn.cache;
}
