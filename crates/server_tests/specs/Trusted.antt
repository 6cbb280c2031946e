-- What a server leaves whose device and second handle are right.
use Rattle.std.specs.Prelude.{◌+◌, List, length, Result, OnOk}
use Rattle.device_image.specs.Keeper.{KeeperState}
use Rattle.disk_model.specs.SimDisk.{state_now}
use Rattle.disk_model.specs.declared.sim.SimDisk.{SimDisk}
use Rattle.export.specs.Left.{KeepsLog, LeavesHistory}
use Rattle.export.specs.Trusted.{image_found}
use Rattle.export_model.specs.OneLog.{RosterState}
use Rattle.export_model.specs.declared.step.Mode.{Mode}
use Rattle.front_end.specs.declared.refusal.Refusal.{Refusal}
use Rattle.image_model.specs.Change.{Change}
use Rattle.server.specs.Sessions.{HasAll}

-- The log of the server agrees with one history of write commands, over the image of a device that was opened: READs show it, and a
-- crash leaves what the log covers. At Ok the log has all clients, and a crash leaves all of the history. Nothing of it has a premise.
pub record KeepsTrustedLog (mode : Mode) (result : Result (Unit {0}) Refusal) (after : SimDisk) : Type 0 where
  pub keeper : KeeperState SimDisk
  pub history : List Change
  pub roster : RosterState
  pub log : KeepsLog (Unit {0}) mode (Unit {0}) (state_now keeper.disk) (state_now after) keeper.count (image_found state_now keeper) history roster
  pub all : OnOk result (HasAll roster)
  pub whole : OnOk result (LeavesHistory (state_now keeper.disk) (state_now after) keeper.count (image_found state_now keeper) history (keeper.count + length history))
