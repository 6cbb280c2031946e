use Rattle.std.proofs.Common.{◌<◌, ◌-◌, length, subst, arith}
use Rattle.std.proofs.lemmas.Result.{IfOk-weaker}
use Rattle.nbd_wire.specs.declared.stream.State.{State}
use Rattle.nbd_wire.specs.State.{kept}
use Rattle.nbd_wire.specs.Stream.{reading, room_of}
use Rattle.nbd_wire.proofs.DataReadIntoRoom.{part_fills}
use Rattle.nbd_wire.proofs.stream.fill.Goals as goal

pub returns-in-Data-clause-ok : goal.returns-in-Data-clause-ok
returns-in-Data-clause-ok g c =
    let room : 1 < c.in-Data.head.length - length c.in-Data.bytes.items = subst (λ (s : State). 1 < room_of (reading (kept s))) c.in-Data.is c.requires.room in
    let part : length c.read_after-bytes.result.0.items < c.in-Data.head.length =
    omega (arith, c.read_after-bytes.ensures.most, c.read_after-bytes.result.0.ok.0, c.min.ensures, c.len.ensures, c.in-Data.bytes.ok.0, room) in
    rw c.in-Data.is (IfOk-weaker c.read_after-bytes.result.1 _ _ (λ count read. part_fills c.in-Data.head c.in-Data.bytes.items c.read_after-bytes.result.0.items _ _ count read part) c.read_after-bytes.ensures.ok)
