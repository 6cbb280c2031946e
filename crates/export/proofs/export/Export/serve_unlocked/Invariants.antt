use Rattle.std.proofs.Common.{◌≡◌, ◌*◌, vec_len}
use Rattle.image_model.specs.Edit.{blocks_met}
use Rattle.request_core.specs.Reading.{IsPlanned}
use Rattle.export.proofs.export.Export.serve_unlocked.Given as goal

abbrev pub invariant-loop : goal.invariant-loop
invariant-loop g l = record {
  size : vec_len l.bytes ≡ 4096 * blocks_met l.request.head.offset l.request.head.length;
  pass : l.pass ≡ l.fn.pass;
  planned : IsPlanned l.request.head l.terms.geometry l.terms.flags l.planned.span;
}
