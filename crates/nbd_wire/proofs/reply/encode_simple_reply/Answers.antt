use Rattle.std.proofs.Common.{ℕ, List, ◌++◌, ap, ◌∙◌, append_assoc}
use Rattle.nbd_wire.proofs.reply.encode_simple_reply.Goals as goal

pub returns-clause-ok : goal.returns-clause-ok
returns-clause-ok c =
    let out = c.args.out.now.items in
    let head = c.encode_simple.result in
    let bytes = c.args.bytes.now in
    c.put-2.ensures.items ∙ ap (λ (t : List ℕ). t ++ bytes) (c.put.ensures.items ∙ ap (λ (t : List ℕ). t ++ head) c.in_ok-reserve.ensures.items)
    ∙ append_assoc out head bytes ∙ ap (λ (t : List ℕ). out ++ t) (c.encode_simple.ensures bytes)
