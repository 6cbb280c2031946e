use Rattle.export.specs.Trusted.{IsTrustedWith, image_found}
use Rattle.server.proofs.serving.serve.Given as goal

-- a log of the mode that the options say, and of the image that was found; it trusts the device and what its second handle vouches for
abbrev pub ghosts-serve_logged : goal.ghosts-serve_logged
ghosts-serve_logged g a = record {
  logs = Unit {0};
  trusted = IsTrustedWith g.D.Disk.state g.D.Disk.honest g.H.ReadUnlocked.vouches a.device.keeper a.device.second_handle (image_found g.D.Disk.state a.device.keeper);
  mode = a.options.mode;
  image = image_found g.D.Disk.state a.device.keeper;
}
