use Rattle.std.proofs.Common.{◌∙◌, ap, length}
use Rattle.image_model.specs.Edit.{BytesPut, BytesZeroed, IsEdit, blocks_met}
use Rattle.order_book.proofs.EditBecomesCommand.{put_found}
use Rattle.order_book.proofs.edits.has_frames_for.Goals as goal

pub returns-in-Put : goal.returns-in-Put
returns-in-Put c = λ number.
    let edit : IsEdit (length c.args.cache.now.states) (BytesPut c.in-Put.offset c.in-Put.bytes.items) = rw c.in-Put.is at c.requires.edit in
    rw c.in-Put.is (put_found c.args.cache.now number c.in-Put.offset c.blocks_met-blocks.result c.in-Put.bytes.items c.has_frames.result c.requires.few edit c.has_frames.ensures.once
    (c.blocks_met-blocks.ensures ∙ ap (blocks_met c.in-Put.offset) (c.len.ensures ∙ c.in-Put.bytes.ok.0)) c.has_frames.ensures.enough)

pub returns-in-Zeroes : goal.returns-in-Zeroes
returns-in-Zeroes c = λ number.
    let edit : IsEdit (length c.args.cache.now.states) (BytesZeroed c.in-Zeroes.offset c.in-Zeroes.length c.in-Zeroes.kind) = rw c.in-Zeroes.is at c.requires.edit in
    rw c.in-Zeroes.is (c.has_frames_at_edges.ensures number c.in-Zeroes.kind edit.kind.1)
