use Rattle.nbd_wire.proofs.Appends.{in_three}
use Rattle.nbd_wire.proofs.chunk.put_hole.Goals as goal

pub returns-clause-items : goal.returns-clause-items
returns-clause-items c =
    in_three _ _ _ _ _ _ _ _ _ _ c.put.ensures.items c.encode_head.ensures c.put-2.ensures.items c.to_be_bytes.ensures c.put-3.ensures.items c.to_be_bytes-2.ensures
