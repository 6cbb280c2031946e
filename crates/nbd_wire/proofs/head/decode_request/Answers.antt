use Rattle.std.proofs.Common.{◌≢◌, take, ap, rules}
use Rattle.nbd_wire.specs.Head.{request_magic, head_bytes}
use Rattle.nbd_wire.specs.laws.Heads.{head_bytes_of}
use Rattle.nbd_wire.proofs.head.decode_request.Goals as goal

pub returns-then-read_u32-ne-REQUEST_MAGIC-clause-none : goal.returns-then-read_u32-ne-REQUEST_MAGIC-clause-none
unfolding head_bytes
returns-then-read_u32-ne-REQUEST_MAGIC-clause-none c =
    let wrong : take 4 c.args.bytes.now ≢ request_magic = search rules in
    λ head same. wrong (ap (take 4) same)

pub returns-clause-found : goal.returns-clause-found
returns-clause-found c = search (rules, head_bytes_of)
