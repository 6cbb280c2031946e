-- The numbers of refusals, and which refusal each fault of a part is (docs/FORMATS.md, "Refusals").
use Rattle.std.specs.Prelude.{ℕ}
use Rattle.checkpoint.specs.declared.fault.KeeperFault.{KeeperFault}
use Rattle.checkpoint.specs.declared.fault.KeeperFault.TheVariants as keeper
use Rattle.nbd_wire.specs.declared.error.WireFault.{WireFault}
use Rattle.nbd_wire.specs.declared.error.WireFault.TheVariants as wire
use Rattle.front_end.specs.declared.refusal.Refusal.{Refusal}
use Rattle.front_end.specs.declared.refusal.Refusal.TheVariants.{NoMemory, DeviceFault, BadMap, NoHeader, BadHeader, NumbersFull, AreaFull, OutOfOrder, DamagedGroup, NotNow, Failed, NoRoom, PeerClosed, ProtocolEnd, StreamFault, AreaSmall}

abbrev pub number_of : Refusal → ℕ
number_of NoMemory = 0
number_of DeviceFault = 1
number_of BadMap = 6
number_of NoHeader = 7
number_of BadHeader = 8
number_of NumbersFull = 9
number_of AreaFull = 10
number_of OutOfOrder = 11
number_of DamagedGroup = 12
number_of NotNow = 15
number_of Failed = 16
number_of NoRoom = 17
number_of PeerClosed = 19
number_of ProtocolEnd = 20
number_of StreamFault = 21
number_of AreaSmall = 22

abbrev pub of_keeper : KeeperFault → Refusal
of_keeper keeper.NoMemory = NoMemory
of_keeper keeper.DeviceFault = DeviceFault
of_keeper keeper.BadMap = BadMap
of_keeper keeper.NoHeader = NoHeader
of_keeper keeper.BadHeader = BadHeader
of_keeper keeper.NumbersFull = NumbersFull
of_keeper keeper.AreaFull = AreaFull
of_keeper keeper.OutOfOrder = OutOfOrder
of_keeper keeper.DamagedGroup = DamagedGroup
of_keeper keeper.NotNow = NotNow
of_keeper keeper.Failed = Failed
of_keeper keeper.AreaSmall = AreaSmall

abbrev pub of_wire : WireFault → Refusal
of_wire wire.NoMemory = NoMemory
of_wire (wire.Malformed fault) = ProtocolEnd
