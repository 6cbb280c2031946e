use Rattle.device_image.specs.Stands.{holes}
use Rattle.shared_store.specs.Keepers.{empty_device}
use Rattle.export_tests.proofs.pass_tests.flush_now_is_ok_after_publish.Given as goal

-- the board that was just made
abbrev pub ghosts-ask_beside_a_flusher-B-BoardName : goal.ghosts-ask_beside_a_flusher-B-BoardName
ghosts-ask_beside_a_flusher-B-BoardName g a = record { board = a.device.blank.board; opening = a.device.blank.opening }

-- the sizes of the device
abbrev pub ghosts-ask_beside_a_flusher-B-ExportName : goal.ghosts-ask_beside_a_flusher-B-ExportName
ghosts-ask_beside_a_flusher-B-ExportName g a = record { geometry = a.device.keeper.geometry; most_pending = 18446744073709551615 }

-- an image of as many blocks, and nothing that is trusted
abbrev pub ghosts-ask_beside_a_flusher-B-ImageName : goal.ghosts-ask_beside_a_flusher-B-ImageName
ghosts-ask_beside_a_flusher-B-ImageName g a = record { image = holes a.device.keeper.geometry.blocks; start = empty_device; trusted = ⊥; vouches = λ read. Unit {0} }
