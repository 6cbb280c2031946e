use Rattle.std.proofs.Common.{◌++◌, sym, subst, arith}
use Rattle.nbd_wire.specs.Head.{head_bytes}
use Rattle.nbd_wire.specs.Request.{Message, IsRequest}
use Rattle.nbd_wire.specs.laws.Requests.{discarded_request}
use Rattle.nbd_wire.specs.laws.Streams.{reads_one}
use Rattle.nbd_wire.proofs.stream.discard.Goals as goal

pub returns-clause-reads : goal.returns-clause-reads
returns-clause-reads c sent len =
    let long = c.requires.write in
    reads_one (head_bytes c.args.head ++ sent) _ _
    (subst (λ (m : Message). IsRequest (head_bytes c.args.head ++ sent) m) (sym c.without_data.ensures) (discarded_request c.args.head sent long.0 long.1 long.2 long.3 (omega arith)))
    c.at_start.ensures.value
