use Rattle.std.proofs.Common.{◌-◌}
use Rattle.order_book.specs.Cached.{dirty_of, frames_of}
use Rattle.order_book.specs.Edits.{image_in}
use Rattle.order_book.proofs.EditBecomesCommand.{edges_found, no_edges_frames}
use Rattle.order_book.proofs.edits.has_frames_at_edges.Goals as goal

pub returns-in_default : goal.returns-in_default
returns-in_default c = λ number kind cleared.
    let cache = c.args.cache.now in
    no_edges_frames c.args.offset c.args.count kind (image_in cache) (frames_of cache) (dirty_of cache) number c.in_default.ensures

pub returns : goal.returns
returns c = λ number kind cleared.
    edges_found c.args.cache.now number c.args.offset c.args.count c.blocks_met.result kind c.in-Some.edges c.has_frames_at_edges.result
    c.head_blocks-head.result (c.count.result - c.head_blocks-head.result) c.requires.few
    (record { some = c.requires.some; inside = c.requires.inside; kind = (c.requires.short, cleared) })
    c.has_frames_at_edges.ensures.once c.in-Some.ensures c.head_blocks-head.ensures (λ i. c.count.ensures i - c.head_blocks-head.ensures i) c.blocks_met.ensures
    c.has_frames_at_edges.ensures.enough
