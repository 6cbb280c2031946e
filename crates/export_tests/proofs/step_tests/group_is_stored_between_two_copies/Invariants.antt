use Rattle.device_image.specs.Stands.{holes}
use Rattle.shared_store.specs.Keepers.{empty_device}
use Rattle.export_tests.proofs.step_tests.group_is_stored_between_two_copies.Given as goal

-- the board that was just made
abbrev pub ghosts-run_held-B-BoardName : goal.ghosts-run_held-B-BoardName
ghosts-run_held-B-BoardName g a = record { board = a.device.blank.board; opening = a.device.blank.opening }

-- the sizes of the device
abbrev pub ghosts-run_held-B-ExportName : goal.ghosts-run_held-B-ExportName
ghosts-run_held-B-ExportName g a = record { geometry = a.device.keeper.geometry; most_pending = 18446744073709551615 }

-- an image of as many blocks, and nothing that is trusted
abbrev pub ghosts-run_held-B-ImageName : goal.ghosts-run_held-B-ImageName
ghosts-run_held-B-ImageName g a = record { image = holes a.device.keeper.geometry.blocks; start = empty_device; trusted = ⊥; vouches = λ read. Unit {0} }
