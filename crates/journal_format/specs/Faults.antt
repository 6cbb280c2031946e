-- what a refusal leaves of a device
use Rattle.std.specs.Prelude.{ℕ}
use Rattle.disk_model.specs.Faults.{counted}
use Rattle.journal_format.specs.declared.fault.JournalFault.{JournalFault}
use Rattle.journal_format.specs.declared.fault.JournalFault.TheVariants.{NoMemory, DeviceFault, AreaFull, OutOfOrder, DamagedGroup}

-- the number of faults of the device after a refusal: only a device fault is counted
abbrev pub faults_by : JournalFault → ℕ → ℕ
faults_by NoMemory faults = faults
faults_by DeviceFault faults = counted faults
faults_by AreaFull faults = faults
faults_by OutOfOrder faults = faults
faults_by DamagedGroup faults = faults
