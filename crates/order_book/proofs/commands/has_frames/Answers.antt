use Rattle.std.proofs.Common.{◌≡◌, ◌≤◌, ◌+◌, ◌-◌, ◌/◌, ◌↔◌, ◌∙◌, ap, subst, length, List, ℕ}
use Rattle.std.specs.Bool.{IsTrue}
use Rattle.image_model.specs.Change.{Written, Edged}
use Rattle.shared_cache.specs.Blocks.{available_frames, count_missing, edges_missing}
use Rattle.order_book.specs.Cached.{head_count}
use Rattle.order_book.proofs.Edges.{tail_count}
use Rattle.order_book.proofs.Frames.{finds_frames}
use Rattle.order_book.proofs.commands.has_frames.Goals as goal

pub returns-in-Put : goal.returns-in-Put
returns-in-Put c = λ number.
    let inside = rw c.in-Put.is at c.requires in
    let count : c.blocks_in.result ≡ (length c.in-Put.bytes.items + 4095) / 4096 =
    c.blocks_in.ensures ∙ ap (λ (bytes : List ℕ). (length bytes + 4095) / 4096) c.deref.ensures.value in
    let enough = subst (λ (n : ℕ). IsTrue c.has_frames.result ↔ (count_missing c.in-Put.first n c.args.cache.now.blocks ≤ available_frames c.args.cache.now.blocks)) count c.has_frames.ensures.enough in
    rw c.in-Put.is (finds_frames _ c.args.cache.now number (Written c.in-Put.first c.in-Put.bytes.items) c.has_frames.result inside c.has_frames.ensures.once enough)

pub returns-in-Edged : goal.returns-in-Edged
returns-in-Edged c = λ number.
    let inside = rw c.in-Edged.is at c.requires in
    let head = c.head_blocks-head.ensures in
    let tail : c.count.result - c.head_blocks-head.result ≡ tail_count c.in-Edged.edges = λ i. c.count.ensures i - c.head_blocks-head.ensures i in
    let P : ℕ → ℕ → Type 0 = λ h t. IsTrue c.has_frames_at_edges.result
    ↔ (edges_missing c.in-Edged.first c.in-Edged.blocks h t c.args.cache.now.blocks ≤ available_frames c.args.cache.now.blocks) in
    let enough = subst (λ (t : ℕ). P (head_count c.in-Edged.edges) t) tail
    (subst (λ (h : ℕ). P h (c.count.result - c.head_blocks-head.result)) head c.has_frames_at_edges.ensures.enough) in
    rw c.in-Edged.is
    (finds_frames _ c.args.cache.now number (Edged c.in-Edged.first c.in-Edged.blocks c.in-Edged.kind c.in-Edged.edges c.in-Edged.bytes.items) c.has_frames_at_edges.result inside
    c.has_frames_at_edges.ensures.once enough)
