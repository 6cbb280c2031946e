use Rattle.std.proofs.Common.{◌∙◌, ◌/◌, ap, ℕ}
use Rattle.image_model.specs.Change.{Cleared, Edged}
use Rattle.order_book.specs.Edits.{image_with}
use Rattle.order_book.proofs.EditBecomesCommand.{edged, unedged, zeroed_made}
use Rattle.order_book.proofs.edits.zero_command.Goals as goal

pub returns-in_default : goal.returns-in_default
returns-in_default c =
    let image = image_with c.args.cache.now (c.args.offset / 4096) c.args.head.now c.args.tail.now in
    ap (λ (n : ℕ). Cleared (c.args.offset / 4096) n c.args.kind) c.blocks_met-blocks.ensures
    ∙ unedged c.args.offset c.args.count c.args.kind image c.in_default.ensures

pub returns : goal.returns
returns c =
    let image = image_with c.args.cache.now (c.args.offset / 4096) c.args.head.now c.args.tail.now in
    let made = c.in_ok-bytes.ensures.bytes
    ∙ zeroed_made c.args.cache.now c.args.offset c.args.count c.args.kind c.in-Some.edges c.args.head.now c.args.tail.now c.requires.edit.some
    c.edge_bytes.ensures.first c.edge_bytes.ensures.last c.in-Some.ensures in
    (λ i. Edged (c.args.offset / 4096) (c.blocks_met-blocks.ensures i) c.args.kind c.in-Some.edges (made i))
    ∙ edged c.args.offset c.args.count c.args.kind image c.in-Some.edges c.in-Some.ensures
