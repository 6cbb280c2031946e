use Rattle.std.proofs.Common.{◌≡◌, true, length, sym, ap, ◌∙◌}
use Rattle.std.proofs.lemmas.List.{append-nil}
use Rattle.nbd_wire.specs.Errno.{errno_number}
use Rattle.nbd_wire.specs.Chunk.{error, chunk_bytes, chunks_bytes}
use Rattle.nbd_wire.specs.Reply.{chunks_of}
use Rattle.nbd_wire.proofs.Appends.{no_room, length-chunk}
use Rattle.nbd_wire.proofs.reply.encode_chunks.Goals as goal

pub returns-in_err-reserve-in-Refused-clause-full : goal.returns-in_err-reserve-in-Refused-clause-full
returns-in_err-reserve-in-Refused-clause-full c =
    let reply = c.args.reply.now in
    let chunk = chunk_bytes true reply.cookie (error (errno_number c.in-Refused.errno)) in
    let text : chunk ≡ chunks_bytes reply.cookie (chunks_of c.args.df reply.answer) =
    sym (append-nil chunk) ∙ ap (λ answer. chunks_bytes reply.cookie (chunks_of c.args.df answer)) (sym c.in-Refused.is) in
    no_room c.from_residual.result _ _ 26 _ c.in_err-reserve-in-Refused.ensures.full (sym (length-chunk true reply.cookie (error (errno_number c.in-Refused.errno))) ∙ ap length text)
