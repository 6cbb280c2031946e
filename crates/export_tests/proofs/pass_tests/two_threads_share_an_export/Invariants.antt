use Rattle.device_image.specs.Stands.{holes}
use Rattle.shared_store.specs.Keepers.{empty_device}
use Rattle.export_tests.proofs.pass_tests.two_threads_share_an_export.Given as goal

-- the board that was just made
abbrev pub ghosts-share-B-BoardName : goal.ghosts-share-B-BoardName
ghosts-share-B-BoardName g a = record { board = a.device.blank.board; opening = a.device.blank.opening }

-- the sizes of the device
abbrev pub ghosts-share-B-ExportName : goal.ghosts-share-B-ExportName
ghosts-share-B-ExportName g a = record { geometry = a.device.keeper.geometry; most_pending = 18446744073709551615 }

-- an image of as many blocks, and nothing that is trusted
abbrev pub ghosts-share-B-ImageName : goal.ghosts-share-B-ImageName
ghosts-share-B-ImageName g a = record { image = holes a.device.keeper.geometry.blocks; start = empty_device; trusted = ⊥; vouches = λ read. Unit {0} }
