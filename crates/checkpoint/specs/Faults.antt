-- the keeper's name for a fault of a part of the device
use Rattle.checkpoint.specs.declared.fault.KeeperFault.{KeeperFault}
use Rattle.checkpoint.specs.declared.fault.KeeperFault.TheVariants.{NoMemory, DeviceFault, BadMap, NoHeader, BadHeader, AreaFull, OutOfOrder, DamagedGroup}
use Rattle.header_slots.specs.declared.fault.HeaderFault.{HeaderFault}
use Rattle.header_slots.specs.declared.fault.HeaderFault.TheVariants as headers
use Rattle.journal_format.specs.declared.fault.JournalFault.{JournalFault}
use Rattle.journal_format.specs.declared.fault.JournalFault.TheVariants as journals
use Rattle.regions.specs.declared.fault.RegionFault.{RegionFault}
use Rattle.regions.specs.declared.fault.RegionFault.TheVariants as regions

abbrev pub of_header : HeaderFault → KeeperFault
of_header headers.DeviceFault = DeviceFault
of_header headers.NoHeader = NoHeader
of_header headers.BadHeader = BadHeader

abbrev pub of_region : RegionFault → KeeperFault
of_region regions.NoMemory = NoMemory
of_region regions.DeviceFault = DeviceFault
of_region regions.BadMap = BadMap

abbrev pub of_journal : JournalFault → KeeperFault
of_journal journals.NoMemory = NoMemory
of_journal journals.DeviceFault = DeviceFault
of_journal journals.AreaFull = AreaFull
of_journal journals.OutOfOrder = OutOfOrder
of_journal journals.DamagedGroup = DamagedGroup
