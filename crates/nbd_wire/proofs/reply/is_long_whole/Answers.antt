use Rattle.std.proofs.Common.{◌≡◌, ◌∙◌, ◌∷◌, [], List, inr, sym, subst}
use Rattle.nbd_wire.specs.declared.message.Run.{Run}
use Rattle.nbd_wire.specs.Answer.{PartsBytes}
use Rattle.nbd_wire.specs.Chunk.{offset_data}
use Rattle.nbd_wire.specs.Reply.{part_chunks}
use Rattle.nbd_wire.proofs.ReplyParts.{run_chunk}
use Rattle.nbd_wire.proofs.reply.is_long_whole.Goals as goal

pub returns-else-whole : goal.returns-else-whole
returns-else-whole c is =
    let read = c.args.read.now in
    let one = c.is_one_run.ensures is in
    let same : read.runs ≡ one.0 ∷ [] = sym c.runs.ensures.value ∙ one.2 in
    let parts = subst (λ (runs : List Run). PartsBytes runs read.bytes) same c.runs.ensures.sound.parts in
    inr (subst (λ (runs : List Run). part_chunks read.offset runs read.bytes ≡ offset_data read.offset read.bytes ∷ []) (sym same)
    (run_chunk read.offset one.0 read.bytes one.1 parts))
