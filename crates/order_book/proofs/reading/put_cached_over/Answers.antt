use Rattle.std.proofs.Common.{◌≡◌, ◌≤◌, ◌+◌, ◌*◌, ◌∙◌, ap, sym, subst, List, ℕ, Some, length, arith, rules}
use Rattle.std.proofs.lemmas.List.{places}
use Rattle.order_book.proofs.BlocksWrittenToSlice.{ArePut, put_cached_over, put_handed}
use Rattle.order_book.proofs.reading.put_cached_over.Goals as goal
use Rattle.order_book.proofs.reading.put_cached_over.Goals.{in-Some, in_default+else-at-span+else-span-at}

pub loop-block-preserved : goal.loop-block-preserved
loop-block-preserved c =
    let into = c.loop-block.into in
    let block = c.loop-block.block in
    let put = c.loop-block.invariant in
    elim c.match-read.branch [
      | in-Some w ↦
          let bytes = w.copy_from_slice.new.self in
          let size : length into ≡ length c.args.into.now = put.size in
          let room : 4096 * block + 4096 ≤ length into = omega arith in
          let long : length bytes ≡ 4096 = w.copy_from_slice.ensures.len ∙ search (rules, places) in
          subst (λ (list : List ℕ). ArePut c.args.cache.now c.args.first c.args.span c.args.into.now (block + 1) list) (sym w.into-is)
          (put_cached_over c.args.cache.now c.args.first c.args.span c.args.into.now into block put bytes room long (ap Some w.copy_from_slice.ensures.after ∙ w.in-Some.ensures))
      | in_default+else-at-span+else-span-at w ↦
          subst (λ (list : List ℕ). ArePut c.args.cache.now c.args.first c.args.span c.args.into.now (block + 1) list) (sym w.into-is)
          (put_handed c.args.cache.now c.args.first c.args.span c.args.into.now into block put w.in_default.ensures (omega (arith, w.if-at-span.false), omega (arith, w.if-span-at.false)))
    ]
