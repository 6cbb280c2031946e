use Rattle.std.specs.Prelude.{◌≡◌, Some, nat_lt}
use Rattle.export_model.specs.Log.{flush_waits}
use Rattle.negotiation.specs.Answered.{offered}
use Rattle.export.specs.Trusted.{IsTrusted, image_found}
use Rattle.server.proofs.serving.serve_logged.Given as goal

-- the board that was just made
abbrev pub ghosts-serve_over-B-BoardName : goal.ghosts-serve_over-B-BoardName
ghosts-serve_over-B-BoardName g a = record { board = a.device.blank.board; opening = a.device.blank.opening }

-- what clients are offered, and whether they may have several requests in progress
abbrev pub ghosts-serve_over-B-ServerName : goal.ghosts-serve_over-B-ServerName
ghosts-serve_over-B-ServerName g a = record { offer = offered a.device.keeper.geometry a.name.bytes.now (flush_waits a.options.mode); several = nat_lt 1 a.options.in_flight }

-- the sizes of the device, and the bound that was asked for
abbrev pub ghosts-serve_over-B-ExportName : goal.ghosts-serve_over-B-ExportName
ghosts-serve_over-B-ExportName g a = record { geometry = a.device.keeper.geometry; most_pending = a.options.limits.loss_bytes }

-- the image that was found, what is trusted of the device, and what its second handle vouches for
abbrev pub ghosts-serve_over-B-ImageName : goal.ghosts-serve_over-B-ImageName
ghosts-serve_over-B-ImageName g a = record {
  image = image_found g.D.Disk.state a.device.keeper;
  start = g.D.Disk.state a.device.keeper.disk;
  trusted = IsTrusted g.D.Disk.state g.D.Disk.honest a.device.keeper (image_found g.D.Disk.state a.device.keeper);
  vouches = λ read. (handle : g.row.H.Denot) × (a.device.second_handle ≡ Some handle) × g.H.ReadUnlocked.vouches handle read;
}
