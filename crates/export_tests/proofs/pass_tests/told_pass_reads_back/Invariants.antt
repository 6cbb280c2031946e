use Rattle.device_image.specs.Stands.{holes}
use Rattle.shared_store.specs.Keepers.{empty_device}
use Rattle.export_tests.proofs.pass_tests.told_pass_reads_back.Given as goal

-- the board that was just made
abbrev pub ghosts-tell_and_read-B-BoardName : goal.ghosts-tell_and_read-B-BoardName
ghosts-tell_and_read-B-BoardName g a = record { board = a.device.blank.board; opening = a.device.blank.opening }

-- the sizes of the device
abbrev pub ghosts-tell_and_read-B-ExportName : goal.ghosts-tell_and_read-B-ExportName
ghosts-tell_and_read-B-ExportName g a = record { geometry = a.device.keeper.geometry; most_pending = 18446744073709551615 }

-- an image of as many blocks, and nothing that is trusted
abbrev pub ghosts-tell_and_read-B-ImageName : goal.ghosts-tell_and_read-B-ImageName
ghosts-tell_and_read-B-ImageName g a = record { image = holes a.device.keeper.geometry.blocks; start = empty_device; trusted = ⊥; vouches = λ read. Unit {0} }
