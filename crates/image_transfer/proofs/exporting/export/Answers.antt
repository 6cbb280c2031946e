use Rattle.std.proofs.Common.{◌≡◌, ◌+◌, ◌∙◌, length, arith, length-append, length-drop}
use Rattle.std.proofs.lemmas.List.{length-take}
use Rattle.image_transfer.proofs.exporting.export.Goals as goal

pub loop-block-preserved : goal.loop-block-preserved
loop-block-preserved g c =
    let before = c.loop-block.invariant in
    let run = c.in_ok-pass_on.ensures in
    let passing = c.in_ok-passed.ensures in
    record {
      order = omega (arith, c.min-count.ensures, passing.within, before.order);
      next = run.block ∙ simp (length-take, length-drop) (omega (arith, passing.block, before.next, before.buffer, c.deref_mut.ensures.len, c.min-count.ensures));
      buffer = simp (length-take, length-append, length-drop) (omega (arith, run.buffer, before.buffer, c.deref_mut.ensures.len, c.loop-block.buffer.ok, c.min-count.ensures));
    }
