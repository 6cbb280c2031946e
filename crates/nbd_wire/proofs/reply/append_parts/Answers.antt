use Rattle.std.proofs.Common.{◌≡◌, ◌+◌, ◌<◌, vec_len, vec_capacity, ap, ◌∙◌, arith}
use Rattle.std.specs.List.{sum_by}
use Rattle.nbd_wire.specs.inner.Reply.{part_len}
use Rattle.nbd_wire.proofs.Appends.{no_room}
use Rattle.nbd_wire.proofs.ReplyParts.{length-parts}
use Rattle.nbd_wire.proofs.reply.append_parts.Goals as goal

pub returns-in_err-reserve-clause-full : goal.returns-in_err-reserve-clause-full
returns-in_err-reserve-clause-full c =
    let read = c.args.read.now in
    let same : c.parts_len.result ≡ sum_by part_len read.runs = c.parts_len.ensures ∙ ap (sum_by part_len) c.runs.ensures.value in
    let full : vec_capacity c.args.out.now < vec_len c.args.out.now + sum_by part_len read.runs = omega (arith, c.in_err-reserve.ensures.full, same) in
    no_room c.from_residual.result _ _ _ _ full (length-parts c.args.cookie read.offset read.runs read.bytes c.runs.ensures.sound.parts)
