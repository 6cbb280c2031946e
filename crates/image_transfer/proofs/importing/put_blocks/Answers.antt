use Rattle.std.proofs.Common.{◌+◌, ◌∙◌, refl, arith}
use Rattle.disk_model.specs.laws.Moments.{goes_on}
use Rattle.image_transfer.proofs.Filling.{passed, zero_blocks}
use Rattle.image_transfer.proofs.importing.put_blocks.Goals as goal

pub loop-at-preserved : goal.loop-at-preserved
loop-at-preserved g c =
    let before = c.loop-at.invariant in
    let run = c.in_ok-put_run.ensures in
    let zeroes = c.zeroes_end-end.ensures in
    record {
      order = c.data_end-at.ensures.within.1;
      all = refl;
      extent = run.extent ∙ before.extent;
      faults = run.faults ∙ before.faults;
      honest = (λ trusted. before.honest.0 (run.honest.0 trusted), λ trusted. run.honest.1 (before.honest.1 trusted));
      blocks = run.count;
      closed = λ honest closed. run.closed (before.honest.1 honest) (before.closed honest closed);
      filled = λ honest closed byte are filled.
          run.filled (before.honest.1 honest) (before.closed honest closed) byte are c.data_end-at.ensures.some
          (passed byte c.args.geometry _ _ (c.args.first + c.loop-at.at) (c.args.first + c.zeroes_end-end.result) (omega (arith, zeroes.within.0))
          (zero_blocks byte c.args.first c.args.bytes.now are c.loop-at.at c.zeroes_end-end.result (omega (arith, zeroes.within.1)) zeroes.zeroes)
          (before.filled honest closed byte are filled));
      any_moment = λ honest closed. goes_on (before.any_moment honest closed) (run.any_moment (before.honest.1 honest) (before.closed honest closed)) (λ content left. left);
    }
