use Rattle.std.proofs.Common.{◌≡◌, [], sym, subst, ◌∙◌}
use Rattle.nbd_wire.specs.Request.{Message, IsRequest, data_len}
use Rattle.nbd_wire.specs.laws.Requests.{plain_request, data_len_write, data_len_other}
use Rattle.nbd_wire.specs.laws.Streams.{reads_one}
use Rattle.nbd_wire.proofs.stream.begin.Goals as goal
use Rattle.nbd_wire.proofs.stream.begin.Goals.{then-head-ne-WRITE-via-then-head-ne-WRITE, then-head-ne-WRITE-via-else-head-ne-WRITE+then-head-eq0}

pub returns-then-head-ne-WRITE-clause-reads : goal.returns-then-head-ne-WRITE-clause-reads
returns-then-head-ne-WRITE-clause-reads g c =
    let none : data_len c.in-Ok.head ≡ 0 =
    elim c.then-head-ne-WRITE.branch [
      | then-head-ne-WRITE-via-then-head-ne-WRITE w ↦ data_len_other c.in-Ok.head w.if-head-ne-WRITE.true
      | then-head-ne-WRITE-via-else-head-ne-WRITE+then-head-eq0 w ↦ data_len_write c.in-Ok.head w.if-head-ne-WRITE.false ∙ w.if-head-eq0.true
    ] in
    let plain : IsRequest c.args.bytes.now (record { head = c.in-Ok.head; bytes = [] }) = rw c.in-Ok.ensures.found (plain_request c.in-Ok.head c.in-Ok.ensures.fits none) in
    reads_one c.args.bytes.now _ _ (subst (λ (m : Message). IsRequest c.args.bytes.now m) (sym c.without_data.ensures) plain) c.at_start.ensures.value
