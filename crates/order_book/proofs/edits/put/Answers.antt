use Rattle.std.proofs.Common.{◌∙◌, ◌+◌, ◌-◌, ◌/◌, ap, nat_eq, if◌then◌else◌, List, ℕ}
use Rattle.image_model.specs.Change.{Written}
use Rattle.order_book.specs.Edits.{bytes_or}
use Rattle.shared_cache.specs.Cache.{bytes_seen}
use Rattle.order_book.proofs.EditBecomesCommand.{put_made}
use Rattle.order_book.proofs.edits.put.Goals as goal

pub returns : goal.returns
returns c =
    let cache = c.args.cache.now in
    let first = c.args.offset / 4096 in
    ap (λ (l : List ℕ). Written first l) c.in_ok-bytes.ensures
    ∙ put_made cache c.args.offset c.args.bytes.now c.args.head.now c.args.tail.now c.bytes_or-old_first.result.now c.bytes_or-old_last.result.now c.requires.edit.some
    c.bytes_or-old_first.ensures.size c.bytes_or-old_last.ensures.size c.bytes_or-old_first.ensures.bytes
    (c.bytes_or-old_last.ensures.bytes
    ∙ ap (bytes_or (bytes_seen cache (first + c.blocks_met.result - 1))) c.read_of.ensures
    ∙ ap (λ (n : ℕ). bytes_or (bytes_seen cache (first + n - 1)) (if nat_eq (first + n - 1) first then c.args.head.now else c.args.tail.now)) c.blocks_met.ensures)
