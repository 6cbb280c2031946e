use Rattle.device_image.specs.Stands.{holes}
use Rattle.shared_store.specs.Keepers.{empty_device}
use Rattle.export_tests.proofs.flush_tests.one_pass_goes_on_alone.Given as goal

-- the board that was just made
abbrev pub ghosts-run-B-BoardName : goal.ghosts-run-B-BoardName
ghosts-run-B-BoardName g a = record { board = a.device.blank.board; opening = a.device.blank.opening }

-- the sizes of the device
abbrev pub ghosts-run-B-ExportName : goal.ghosts-run-B-ExportName
ghosts-run-B-ExportName g a = record { geometry = a.device.keeper.geometry; most_pending = 18446744073709551615 }

-- an image of as many blocks, and nothing that is trusted
abbrev pub ghosts-run-B-ImageName : goal.ghosts-run-B-ImageName
ghosts-run-B-ImageName g a = record { image = holes a.device.keeper.geometry.blocks; start = empty_device; trusted = ⊥; vouches = λ read. Unit {0} }
